-- `program_texts::put_caps`.
use Rattle.std.proofs.Common.{arith, pow_pos}
use Rattle.program_texts.specs.Sketching.{caps_none, caps_more}
use Rattle.program_texts.proofs.put_caps.Goals as goal

pub loop-i-init : goal.loop-i-init
loop-i-init c =
    caps_none _ _ _ _

pub put_cap-at-requires : goal.put_cap-at-requires
put_cap-at-requires c =
    (omega (arith, c.loop-i.invariant.end, c.requires.1.few), omega (arith, c.pow2-count.ensures, pow_pos c.args.k))

pub loop-i-preserved : goal.loop-i-preserved
loop-i-preserved c =
    let put = rw c.from.ensures at c.put_cap-at.ensures in
    caps_more _ c.loop-i.i c.loop-i.invariant c.pow2-count.ensures put.0 put.1
