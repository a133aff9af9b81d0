-- The cuts of a build page its old versions; and what reading from a place on says: the old versions in order, a sound chain.
-- Assumes nothing.
use Prim.Native.Nat.{ℕ, zero, suc, ◌+◌, ◌*◌, ◌-◌, ◌^◌, ◌≤◌, ◌<◌}
use mathlib.Core.Path.{◌≡◌, refl, sym, ap, subst}
use mathlib.Core.Bool.{true}
use mathlib.Core.List.{List, [], ◌∷◌, ◌++◌}
use native.Mathlib.Omega.{arith}
use lib.ListN.{length, take, drop, length-drop}
use lib.Seq.{length-take-le}
use Rattle.order.specs.declared.Ver.{Ver}
use Rattle.frames.specs.Layout.{base_len, addr}
use Rattle.frames.specs.Limits.{max_budget}
use Rattle.build_paging.specs.Cuts.{cuts, first_cut, total}
use Rattle.build_paging.proofs.Cutting.{cuts_nil, Told, told, first_some, page_most}
use Rattle.build_sources.specs.Source.{Entry}
use Rattle.pages.specs.Sound.{chain_from}
use Rattle.pages.specs.Meaning.{Older, olds_from}
use Rattle.build_image.specs.declared.Call.{Call}
use Rattle.build_image.specs.Sizes.{cost, costs_of}
use Rattle.build_image.specs.Image.{hist_size}
use Rattle.build_image.proofs.Lengths.{cost-some, costs_many, costs_take, costs_drop, costs_length}
use Rattle.law_history.specs.Fit.{CallFits}
use Rattle.law_history.specs.Olders.{olders_of, Aged}
use Rattle.law_history.proofs.Chain.{Olds, Paged}

-- ---- the cuts

module _ (m : Call) (w : CallFits m) where
  abbrev limit : ℕ
  limit = m.limit

  -- a first page of k old versions: within u16 and u32
  page-small : (e : Entry) (es : List Entry) (k : ℕ) → k ≡ first_cut m.budget (costs_of limit (e ∷ es)) → k ≤ length (e ∷ es) → (k < 256 ^ 2) × (hist_size limit (take k (e ∷ es)) < 256 ^ 4)
  unfolding hist_size costs_of total
  page-small e es k q l =
      let most : base_len + total (take (first_cut m.budget (costs_of limit (e ∷ es))) (costs_of limit (e ∷ es))) ≤ max_budget =
      page_most m.budget max_budget (costs_of limit (e ∷ es)) w.budget (omega arith) (omega (arith, (cost-some limit e).1, w.limit)) in
      let size : base_len + total (costs_of limit (take k (e ∷ es))) ≤ max_budget = rw (costs_take limit k (e ∷ es), q) most in
      let many : 21 * length (take k (e ∷ es)) ≤ total (costs_of limit (take k (e ∷ es))) = costs_many limit (take k (e ∷ es)) in
      let long : length (take k (e ∷ es)) ≡ k = length-take-le k (e ∷ es) l in
      (omega arith, omega arith)

  -- one page, and those behind it
  some_paged : (n : ℕ) (es : List Entry) → length es ≤ suc n → ((xs : List Entry) → length xs ≤ n → Paged limit (cuts m.budget (costs_of limit xs)) xs) → Paged limit (cuts m.budget (costs_of limit es)) es
  unfolding Paged costs_of
  some_paged n [] h ih = rw (cuts_nil m.budget) refl
  some_paged n (e ∷ es) h ih =
      let ss = costs_of limit (e ∷ es) in
      let k = first_cut m.budget ss in
      let t : Told m.budget ss k = told m.budget ss k refl in
      let some : 0 < k = omega (arith, first_some m.budget (cost limit e) (costs_of limit es)) in
      let long : k ≤ length (e ∷ es) = omega (arith, t.long, costs_length limit (e ∷ es)) in
      let sm = page-small e es k refl long in
      let less : length (drop k (e ∷ es)) ≤ n = omega (arith, length-drop k (e ∷ es)) in
      let rest : Paged limit (cuts m.budget (drop k ss)) (drop k (e ∷ es)) =
      subst (λ (x : List ℕ). Paged limit (cuts m.budget x) (drop k (e ∷ es))) (costs_drop limit k (e ∷ es)) (ih (drop k (e ∷ es)) less) in
      subst (λ (x : List ℕ). Paged limit x (e ∷ es)) (sym (t.cut some)) (some, long, sm.0, sm.1, rest)

  paged : (n : ℕ) (es : List Entry) → length es ≤ n → Paged limit (cuts m.budget (costs_of limit es)) es
  unfolding Paged costs_of
  paged zero [] h = rw (cuts_nil m.budget) refl
  paged zero (e ∷ es) h = absurd (omega arith)
  paged (suc n) es h = some_paged n es h (paged n)

  pub cuts_paged : (es : List Entry) → Paged limit (cuts m.budget (costs_of limit es)) es
  cuts_paged es = paged (length es) es (omega arith)

-- ---- reading from a place on

pub olds-read : (s : List ℕ) (a i : ℕ) (xs ys : List Entry) → Olds s a i (xs ++ ys) → olds_from s (length xs) (addr a) i ≡ olders_of xs
unfolding Olds olds_from olders_of
olds-read s a i [] ys h = refl
olds-read s a i (x ∷ xs) ys h =
    let said = h.5 in
    rw (h.3, said.ver, said.val) (ap (λ (l : List Older). (record { ver = x.ver; value = x.val }) ∷ l) (olds-read s h.0 (h.1 + 1) xs ys h.6))

pub chain_read : (s : List ℕ) (a i : ℕ) (t : Ver) (xs ys : List Entry) → Olds s a i (xs ++ ys) → Aged t xs → chain_from s (length xs) (addr a) i t ≡ true
unfolding Olds chain_from Aged
chain_read s a i t [] ys h g = refl
chain_read s a i t (x ∷ xs) ys h g =
    let said = h.5 in
    rw (h.3, h.4, said.ver, g.0) (chain_read s h.0 (h.1 + 1) x.ver xs ys h.6 g.1)
