-- `c_words::store` meets its contract. Assumes nothing.
use mathlib.Core.Path.{sym}
use mathlib.Core.List.{[], ◌∷◌}
use Rattle.spans.specs.Span.{put}
use Rattle.spans.specs.Span.{put}
use borrow.Author.Rules.{rules}
use Rattle.c_words.proofs.Laws.{put_out}
use Rattle.c_words.proofs.store.Goals as goal

pub returns-else-k-out : goal.returns-else-k-out
returns-else-k-out c = sym (put_out _ _ (c.args.w ∷ []) c.if-k-out.false)

pub returns-then-k-out : goal.returns-then-k-out
unfolding put
returns-then-k-out c = search rules
