-- What an index page answers that says a list, over that list: its walk, its ranges, its floor.
-- Assumes nothing.
use Prim.Native.Nat.{ℕ, ◌-◌}
use mathlib.Core.Path.{◌≡◌, refl, sym, ap, ap₂, ◌∙◌, subst}
use mathlib.Core.Bool.{Bool, true, false, cond}
use mathlib.Core.List.{List, [], ◌∷◌}
use native.Mathlib.Omega.{arith}
use lib.ListN.{length, take, drop}
use lib.Seq.{take-length}
use Rattle.order.specs.declared.Ver.{Ver}
use Rattle.frames.specs.declared.Addr.{Addr}
use Rattle.pages.specs.Meaning.{Child, index, says, meaning}
use Rattle.build_sources.specs.Source.{Entry}
use Rattle.build_image.specs.Image.{Borders}
use Rattle.sst.specs.Search.{lower_at, floor_at}
use Rattle.sst.specs.Says.{FloorSays}
use Rattle.sst.proofs.Answers.{lower_says, floor_says}
use Rattle.walks.specs.Walk.{forward_at}
use Rattle.walks.specs.Listed.{Leads}
use Rattle.walks.proofs.Says.{forward_leads}
use Rattle.law_index.specs.Children.{child_is, children_of, index_page}
use Rattle.law_index.proofs.Slots.{children_many}
use Rattle.law_list.specs.Asked.{having, between, key_is, pos_of}
use Rattle.law_list.proofs.Having.{having_range}
use Rattle.law_list.proofs.Bounds.{Cuts, bound-cuts, child_key, children_cut}

-- the children of a part of the list are that part of the children
part_by : (p : List ℕ → Bool) (t : Bool) (c : Child) (e : Entry) (cs : List Child) (es : List Entry) → c ≡ child_is e → cs ≡ children_of es → cond t (c ∷ cs) cs ≡ children_of (cond t (e ∷ es) es)
unfolding children_of
part_by p true c e cs es q h = ap₂ (λ (x : Child) (l : List Child). x ∷ l) q h
part_by p false c e cs es q h = h

pub children_having : (p : List ℕ → Bool) (es : List Entry) → having child_key p (children_of es) ≡ children_of (having key_is p es)
unfolding children_of having
children_having p [] = refl
children_having p (e ∷ es) = part_by p (p e.key) (child_is e) e (having child_key p (children_of es)) (having key_is p es) refl (children_having p es)

module _ (s : List ℕ) (a : Addr) (b : Borders) (es : List Entry) (means : meaning s a ≡ says (index_page b es)) where
  abbrev cs : List Child
  cs = children_of es

  abbrev pre : List ℕ
  pre = take b.prefix b.lo

  -- ---- the whole list

  pub leads-all : Leads s pre (forward_at s a 0 (length es)) (children_of es)
  unfolding index_page
  leads-all =
      let z : length cs - 0 ≡ length cs = omega arith in
      let e : take (length cs - 0) (drop 0 cs) ≡ cs = ap (λ (n : ℕ). take n cs) z ∙ take-length cs in
      subst (λ (n : ℕ). Leads s pre (forward_at s a 0 n) cs) (children_many es)
      (subst (λ (l : List Child). Leads s pre (forward_at s a 0 (length cs)) l) e (forward_leads s a (index_page b es) means cs refl 0 (length cs) (omega arith)))

  -- ---- a range between any two lower bounds, with any version

  module _ (v : Ver) (lo hi : List ℕ) where
    abbrev i : ℕ
    i = pos_of (lower_at s a lo v)

    abbrev j : ℕ
    j = pos_of (lower_at s a hi v)

    cuts : (probe : List ℕ) → Cuts (index cs) v probe (pos_of (lower_at s a probe v))
    unfolding index_page
    cuts probe = bound-cuts (index cs) probe v (λ n. refl) (lower_at s a probe v) (lower_says s a (index_page b es) means probe v)

    pub leads_range : Leads s pre (forward_at s a i j) (children_of (having key_is (between lo hi) es))
    unfolding index_page
    leads_range =
        subst (λ (l : List Child). Leads s pre (forward_at s a i j) l)
        (sym (having_range child_key lo hi cs i j (children_cut cs v lo i (cuts lo)) (children_cut cs v hi j (cuts hi))) ∙ children_having (between lo hi) es)
        (forward_leads s a (index_page b es) means cs refl i j (cuts hi).inside)

  -- ---- floor: the greatest key of the list not above the probe, or the first

  pub floor_list : (probe : List ℕ) → FloorSays (children_of es) probe (floor_at s a probe)
  unfolding index_page
  floor_list probe = floor_says s a (index_page b es) means probe cs refl
