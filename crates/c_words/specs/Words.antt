-- What a call leaves in the words that it is lent, and the words of a walk and of its steps, in the order of include/cresttrestle.h.
-- A refusal has no words, so it changes none.
-- Assumes nothing.
use Rattle.std.specs.Prelude.{ℕ, ◌+◌, List, [], ◌∷◌, get_or, Result, Ok, Err}
use Rattle.spans.specs.Span.{put}
use Rattle.frames.specs.Layout.{addr}
use Rattle.pages.specs.declared.Place.{Place}
use Rattle.pages.specs.Boundaries.{place}
use Rattle.walks.specs.declared.Sheet.{Sheet}
use Rattle.walks.specs.declared.OldPlace.{OldPlace}
use Rattle.walks.specs.declared.Walk.{Walk}
use Rattle.walks.specs.declared.Item.{Item}
use Rattle.walks.specs.declared.Branch.{Branch}
use Rattle.walks.specs.Walk.{walk_of, older_of}
use Rattle.frames.specs.declared.Refusal.{Refusal}
use Rattle.walks.specs.declared.Step.{Step}

-- the words stored at the front of a slice: "A slice with fewer words takes the first ones only, words behind the answer stay as they are"
unfoldable pub written : List ℕ → List ℕ → List ℕ
written ws out = put out 0 ws

abbrev pub sheet_words : Sheet → List ℕ
sheet_words v = v.at ∷ v.elems ∷ v.front ∷ v.end ∷ v.prefix_len ∷ []

abbrev pub walk_words : Walk → List ℕ
walk_words w =
    w.page.at ∷ w.page.elems ∷ w.page.front ∷ w.page.end ∷ w.page.prefix_len
    ∷ w.way ∷ w.pos ∷ w.heads ∷ w.key.at ∷ w.key.len
    ∷ w.older.page.at ∷ w.older.page.elems ∷ w.older.page.front ∷ w.older.page.end ∷ w.older.page.prefix_len
    ∷ w.older.link.0 ∷ w.older.slot ∷ w.older.left ∷ []

-- and back: any words are some walk, "words that a shorter slice lacks count as 0"
abbrev pub sheet_in : List ℕ → ℕ → Sheet
sheet_in ws k =
    record {
      at = get_or ws k 0;
      elems = get_or ws (k + 1) 0;
      front = get_or ws (k + 2) 0;
      end = get_or ws (k + 3) 0;
      prefix_len = get_or ws (k + 4) 0;
    }

abbrev pub older_in : List ℕ → OldPlace
older_in ws = older_of (sheet_in ws 10) (addr (get_or ws 15 0)) (get_or ws 16 0) (get_or ws 17 0)

unfoldable pub walk_in : List ℕ → Walk
walk_in ws = walk_of (sheet_in ws 0) (get_or ws 5 0) (get_or ws 6 0) (get_or ws 7 0) (place (get_or ws 8 0) (get_or ws 9 0)) (older_in ws)

-- the walk behind an old version of the same page, and behind a head: what a step changes of it
abbrev pub aged_to : Walk → ℕ → ℕ → Walk
aged_to w slot left = walk_of w.page w.way w.pos w.heads w.key (older_of w.older.page w.older.link slot left)

abbrev pub head_to : Walk → ℕ → ℕ → Place → Walk
head_to w p heads key = walk_of w.page w.way p heads key w.older

abbrev pub item_words : Item → List ℕ
item_words x =
    1 ∷ x.key.at ∷ x.key.len ∷ x.ver.txid ∷ x.ver.cmd ∷ x.value.at ∷ x.value.len ∷ x.remote.0 ∷ x.named.0 ∷ []

abbrev pub branch_words : Branch → List ℕ
branch_words x = 2 ∷ x.key.at ∷ x.key.len ∷ x.page.0 ∷ 0 ∷ 0 ∷ 0 ∷ 0 ∷ 0 ∷ []

abbrev pub end_words : List ℕ
end_words = 0 ∷ 0 ∷ 0 ∷ 0 ∷ 0 ∷ 0 ∷ 0 ∷ 0 ∷ 0 ∷ []

-- a step's words for `out`
abbrev pub step_words : Result Step Refusal → List ℕ
step_words (Ok (Step.Found x w)) = item_words x
step_words (Ok (Step.Leads x w)) = branch_words x
step_words (Ok Step.End) = end_words
step_words (Err r) = []

-- and for the walk: "The walk moves on, unless it is at its end or refused"
abbrev pub moved_words : Result Step Refusal → List ℕ
moved_words (Ok (Step.Found x w)) = walk_words w
moved_words (Ok (Step.Leads x w)) = walk_words w
moved_words (Ok Step.End) = []
moved_words (Err r) = []
