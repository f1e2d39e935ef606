-- `sketch::run`: what was read are the input's first bytes, as many as the buffer has places.
use Rattle.std.proofs.Common.{rules, ◌∙◌}
use Rattle.definition.specs.Sketch.{sketch_of}
use Rattle.program_input.specs.Passed.{wrote_of}
use Rattle.sketch.proofs.run.Goals as goal

pub returns : goal.returns
returns g c =
    wrote_of c.write_all.result (g.R.Read.remaining c.args.input.now) _ _ sketch_of _ _ _ 65536 (search rules)
    c.in_ok-n.ensures.bytes (c.as_bytes.ensures ∙ c.sketch_text-text.ensures) c.write_all.ensures.bytes
