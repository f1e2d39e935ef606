-- `quote_page::put_block`: the block's five figures.
use borrow.Author.Rules.{rules}
use Rattle.quote_figures.specs.Caps.{small_side}
use Rattle.quote_page.specs.Page.{block_wrote}
use Rattle.quote_page.proofs.put_block.Goals as goal

pub quote_cap-cap-requires : goal.quote_cap-cap-requires
quote_cap-cap-requires c =
    (search (small_side, rules), search rules)

pub returns : goal.returns
returns c =
    search (block_wrote, rules)
