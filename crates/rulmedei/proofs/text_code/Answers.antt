-- `rulmedei::text_code`.
use Rattle.rulmedei.specs.FromCalls.{case_coded}
use Rattle.rulmedei.proofs.text_code.Goals as goal

pub returns : goal.returns
returns c =
    case_coded c.args.answer c.code.ensures c.unwrap_or.ensures
