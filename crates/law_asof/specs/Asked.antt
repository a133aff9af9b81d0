-- What is asked of a page as of a version, said over the records that were handed in: the first of that key that is no newer.
-- Assumes nothing.
use Rattle.std.specs.Prelude.{ℕ, ◌≡◌, Bool, not, ◌&&◌, cond, List, [], ◌∷◌, Result, Ok, Err}
use Rattle.order.specs.declared.Ver.{Ver}
use Rattle.order.specs.Version.{newer_than}
use Rattle.pages.specs.Boundaries.{part_in}
use Rattle.walks.specs.Listed.{Entry as Listed}
use Rattle.law_list.specs.Asked.{same}
use Rattle.asof.specs.declared.AsOf.{AsOf}
use Rattle.frames.specs.declared.Refusal.{Refusal}

-- the first of a list with a property: one, or none
unfoldable pub first : {A : Type 0} → (A → Bool) → List A → List A
first p [] = []
first p (x ∷ xs) = cond (p x) (x ∷ []) (first p xs)

-- "no newer than it"
abbrev pub no_newer : Ver → Listed → Bool
no_newer v r = not (newer_than r.ver v)

abbrev pub wanted : List ℕ → Ver → Listed → Bool
wanted probe v r = same probe r.key && no_newer v r

-- the answer over the records of the list: "the newest record of that key that is no newer", with its own version and its value's bytes;
-- none "if all are newer or the key is absent"; never a refusal
abbrev pub AsOfSays : List ℕ → List Listed → List ℕ → Ver → Result AsOf Refusal → Type 0
AsOfSays s rs probe v (Ok (AsOf.Is i ver x n)) = first (wanted probe v) rs ≡ (record { key = probe; ver = ver; value = part_in s x }) ∷ []
AsOfSays s rs probe v (Ok (AsOf.Nothing n)) = first (wanted probe v) rs ≡ []
AsOfSays s rs probe v (Err r) = ⊥
