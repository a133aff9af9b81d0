-- `pages::old_or_child` meets its contract. Assumes nothing.
use mathlib.Core.Path.{sym}
use Rattle.records.proofs.Quick.{quick_is}
use Rattle.records.proofs.Inside.{rec_no}
use Rattle.pages.proofs.old_or_child.Goals as goal

pub returns-in-Some : goal.returns-in-Some
returns-in-Some c = sym (quick_is _ c.quick_old.ensures c.in-Some.is (rec_no _))
