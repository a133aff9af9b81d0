-- What a leaf page answers as of a version that says a list's groups, over that list.
-- Assumes nothing.
use Prim.Native.Nat.{ℕ}
use mathlib.Core.Path.{◌≡◌, refl, ap, ◌∙◌, subst}
use mathlib.Core.Bool.{Bool, true, false}
use mathlib.Core.List.{List, ◌∷◌}
use Rattle.order.specs.declared.Ver.{Ver}
use Rattle.order.specs.Version.{newer_than}
use Rattle.frames.specs.declared.Addr.{Addr}
use Rattle.frames.specs.declared.Refusal.{Refusal}
use Rattle.values.specs.declared.HistRef.{HistRef}
use Rattle.pages.specs.declared.Place.{Place}
use Rattle.pages.specs.Boundaries.{part_in}
use Rattle.pages.specs.Meaning.{says, olds_from, meaning}
use Rattle.build_sources.specs.Source.{Entry}
use Rattle.build_sources.specs.Marks.{Each, Marked, Wide}
use Rattle.build_image.specs.Image.{Borders}
use Rattle.sst.specs.Search.{search_at}
use Rattle.sst.specs.Says.{FoundSays}
use Rattle.sst.proofs.Answers.{search_says}
use Rattle.walks.specs.Listed.{Entry as Listed, older_entries}
use Rattle.asof.specs.AsOf.{old_enter, as_of_at}
use Rattle.law_leaf.specs.Grouped.{grouped, leaf_page}
use Rattle.law_list.specs.Asked.{records_of, having, same, key_is, largest, SearchSays}
use Rattle.law_list.proofs.Bounds.{heads-plain}
use Rattle.law_list.proofs.Leaves.{search_list}
use Rattle.law_asof.specs.Asked.{first, no_newer, AsOfSays}
use Rattle.law_asof.proofs.Picking.{first-having}
use Rattle.law_asof.proofs.Olds.{Picks, picks_next, picks_here, enter_picks}
use Rattle.law_asof.proofs.Searched.{beside_pick, beside_of, as_found, Resolves, as_of_beside, search_resolves}
use Rattle.std.proofs.Common.{Result, Ok, Err}
use Rattle.asof.specs.declared.AsOf.{AsOf}
use Rattle.sst.specs.declared.Found.{Found}

-- ---- from what search says to what the lookup says

module _ (s : List ℕ) (es : List Entry) (probe : List ℕ) (v : Ver) where
  abbrev mine : List Listed
  mine = records_of (having key_is (same probe) es)

  -- picked from the key's records, it is picked from the list
  of_key : (x : Result AsOf Refusal) → Picks s probe v mine x → AsOfSays s (records_of es) probe v x
  of_key (Ok (AsOf.Is i ver x n)) h = first-having probe v es ∙ h
  of_key (Ok (AsOf.Nothing n)) h = first-having probe v es ∙ h
  of_key (Err r) h = absurd h

  head_or_history : (i : ℕ) (ver : Ver) (h : HistRef) (x : Place) (n : ℕ) → Resolves s (Ok (Found.Is i ver h x n))
      → Picks s probe v ((record { key = probe; ver = ver; value = part_in s x }) ∷ older_entries probe (olds_from s h.count h.page h.slot)) (beside_of s v (Ok (Found.Is i ver h x n)))
  head_or_history i ver h x n f = go (newer_than ver v) refl
    where
      rs : List Listed
      rs = older_entries probe (olds_from s h.count h.page h.slot)

      go : (t : Bool) → newer_than ver v ≡ t → Picks s probe v ((record { key = probe; ver = ver; value = part_in s x }) ∷ rs) (beside_pick s v i ver h x n t)
      go true e = picks_next s probe v (record { key = probe; ver = ver; value = part_in s x }) rs e (old_enter s v i n h) (enter_picks s probe v i n h ver f.0 f.1)
      go false e = picks_here s probe v ver x (part_in s x) rs i n e refl

  of_search : (r : Result Found Refusal) → Resolves s r → SearchSays s es probe r → AsOfSays s (records_of es) probe v (beside_of s v r)
  unfolding first records_of
  of_search (Ok (Found.Is i ver h x n)) f e = of_key (beside_of s v (Ok (Found.Is i ver h x n))) (rw e (head_or_history i ver h x n f))
  of_search (Ok (Found.Nothing n)) f e = first-having probe v es ∙ ap (λ (l : List Entry). first (no_newer v) (records_of l)) e
  of_search (Err r) f e = e

-- ---- a page that says the list's groups

module _ (s : List ℕ) (a : Addr) (b : Borders) (es : List Entry) (means : meaning s a ≡ says (leaf_page b es)) (marks : Marked es) (probe : List ℕ) where
  beside : (v : Ver) → as_of_at s a probe v ≡ beside_of s v (search_at s a probe)
  unfolding leaf_page
  beside v = as_of_beside s a (leaf_page b es) means probe (grouped es) refl v

  -- THE LAW: the first record of the key in the list whose version is not newer, or the list has none
  pub as_of_list : (v : Ver) → AsOfSays s (records_of es) probe v (as_of_at s a probe v)
  as_of_list v =
      rw (beside v)
      (of_search s es probe v (search_at s a probe) (search_resolves s a (leaf_page b es) means probe) (search_list s a b es means marks probe))

  -- every probe is answered
  pub as_of_answers : (v : Ver) (r : Refusal) → as_of_at s a probe v ≡ Err r → ⊥
  as_of_answers v r e = subst (AsOfSays s (records_of es) probe v) e (as_of_list v)

  -- ---- as of the largest version it is what search finds

  pub as_of_largest : Each Wide es → as_of_at s a probe largest ≡ as_found (search_at s a probe)
  unfolding leaf_page
  as_of_largest wide = beside largest ∙ go (search_at s a probe) (search_says s a (leaf_page b es) means probe (grouped es) refl)
    where
      go : (r : Result Found Refusal) → FoundSays s (grouped es) probe r → beside_of s largest r ≡ as_found r
      go (Ok (Found.Is i ver h x n)) f = let e : newer_than ver largest ≡ false = ap (λ (u : Ver). newer_than u largest) f.ver ∙ heads-plain es wide i in rw e refl
      go (Ok (Found.Nothing n)) f = refl
      go (Err r) f = refl
