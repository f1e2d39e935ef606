-- `shelf::put_at`: the copy, and x written over the place that it left.
use Rattle.shelf.specs.Putting.{put_is}
use Rattle.shelf.proofs.put_at.Goals as goal

pub returns : goal.returns
returns c =
    put_is _ _ _ _ c.requires.most c.requires.room c.copy_within.ensures.after
