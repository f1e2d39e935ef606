-- `convert::run`: what was read are the input's first bytes, as many as the buffer has places.
use Rattle.std.proofs.Common.{rules, ◌∙◌}
use Rattle.definition.specs.Convert.{convert_of}
use Rattle.program_input.specs.Passed.{wrote_of}
use Rattle.convert.proofs.run.Goals as goal

pub returns : goal.returns
returns g c =
    wrote_of c.write_all.result (g.R.Read.remaining c.args.input.now) _ _ convert_of _ _ _ 262149 (search rules)
    c.in_ok-n.ensures.bytes (c.as_bytes.ensures ∙ c.convert_text-text.ensures) c.write_all.ensures.bytes
