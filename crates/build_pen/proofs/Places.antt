-- A record list read place by place: the entries from a place on, by what is read there.
-- Assumes nothing.
use mathlib.Core.Path.{◌≡◌, refl, sym, ap, ◌∙◌}
use mathlib.Core.List.{List, [], ◌∷◌}
use mathlib.Core.Bool.{Bool, true, false}
use Prim.Native.Nat.{ℕ, ◌+◌, ◌≤◌, ◌<◌}
use native.Mathlib.Omega.{arith}
use lib.ListN.{length}
use lib.Dec.{leb}
use borrow.Author.Tests.{leb-true, leb-false}
use Rattle.spans.specs.Span.{part, part_or}
use Rattle.numbers.specs.Number.{be_at}
use Rattle.order.specs.Order.{is_equal}
use Rattle.frames.specs.Limits.{max_key, max_value}
use Rattle.build_sources.specs.Lists.{record_item, same_key, list_key}
use Rattle.build_sources.specs.Source.{Entry, entry_of, entries, well_formed}
use Rattle.build_sources.proofs.Sourced.{Found, found, ended, odd}
use Rattle.build_sources.proofs.Stepped.{record_end}
use Rattle.build_image.specs.Sizes.{old_run}
use Rattle.build_sweep.specs.Ents.{ent_at, order_at, ver_in}
use Rattle.build_sweep.proofs.Ents.{ent-short, ent-long, ent_cut, ent_big, ent_open, ent-found, step_at_lem, step_out, key-bare, same-order}
use Rattle.build_pen.specs.declared.RecordAt.{RecordAt}
use Rattle.build_pen.specs.Places.{here, list_from, list_behind, Well, Reads, past_of, Inside, entry_at, entry_in, alike}
use Rattle.std.proofs.Common.{Option, Some, None}

clash : {x : Bool} → x ≡ false → x ≡ true → ⊥
clash p q = let z : ◌≡◌ {A = Bool} false true = sym p ∙ q in let y : ◌≡◌ {A = ℕ} 0 1 = cc in omega arith

entry_by : (l : List ℕ) (b o : Bool) (x : List ℕ) (k n v : ℕ) → o ≡ b → x ≡ part_or l k n
    → ◌≡◌ {A = Entry} (record { old = o; key = x; ver = ver_in l (k + n); val = part l (k + n + 16) v; kept = 0; page = 0 }) (entry_at l b k n v)
entry_by l b o x k n v e f = rw (e, f) refl

-- the end
module _ (l : List ℕ) (at : ℕ) (h : length l ≤ at) where
  at-end : (seen : Bool) (kat klen : ℕ) → (entries l [] (here at seen kat klen) ≡ []) × (well_formed l [] (here at seen kat klen) ≡ true)
  at-end seen kat klen = ended l [] (here at seen kat klen) (sym (record_end l [] (here at seen kat klen) refl h))

  pub end-from : list_from l at ≡ []
  end-from = (at-end false 0 0).0

  pub end-behind : (kat klen : ℕ) → list_behind l at kat klen ≡ []
  end-behind kat klen = (at-end true kat klen).0

-- one entry
module _ (l : List ℕ) (at : ℕ) (lt : at < length l) where
  pub no_out : Well l at → None ≡ ent_at l at → ⊥
  no_out w q = clash (odd l [] (here at false 0 0) (step_out l [] at false 0 0 lt q)).1 w

  -- a list that ends well has one here
  module _ (w : Well l at) where
    pub first_fits : at + 2 ≤ length l
    first_fits = let z : length l < at + 2 → ⊥ = λ h. no_out w (ent-short l at h) in omega (arith, z)

    module _ (k : ℕ) (ek : k ≡ be_at 2 l at) where
      pub key_fits : k ≤ max_key
      key_fits = let z : max_key < k → ⊥ = λ h. no_out w (ent-long l at k ek first_fits h) in omega (arith, z)

      pub front_fits : at + 2 + (k + 16) ≤ length l
      front_fits = let z : length l < at + 2 + (k + 16) → ⊥ = λ h. no_out w (ent_cut l at k ek first_fits key_fits h) in omega (arith, z)

      module _ (v : ℕ) (ev : v ≡ be_at 4 l (at + 2 + k + 12)) where
        val-fits : v ≤ max_value
        val-fits = let z : max_value < v → ⊥ = λ h. no_out w (ent_big l at k ek first_fits key_fits v ev front_fits h) in omega (arith, z)

        all-fits : at + 2 + k + 16 + v ≤ length l
        all-fits = let z : length l < at + 2 + k + 16 + v → ⊥ = λ h. no_out w (ent_open l at k ek first_fits key_fits v ev front_fits val-fits h) in omega (arith, z)

        pub read_is : Reads l at (record { kat = at + 2; klen = k; vlen = v })
        read_is = record { ent = ent-found l at k ek first_fits key_fits v ev front_fits val-fits all-fits; kat = refl }

  module _ (i : RecordAt) (r : Reads l at i) where
    abbrev past : ℕ
    past = at + 2 + i.klen + 16 + i.vlen

    pub past_is : past ≡ past_of i
    past_is = omega (arith, r.kat)

    pub fd : (seen : Bool) (kat klen : ℕ) → Found l [] (here at seen kat klen) (record_item l (here at seen kat klen) i.klen i.vlen) (here past true (at + 2) i.klen)
    fd seen kat klen = found l [] (here at seen kat klen) _ _ (step_at_lem l [] at seen kat klen lt i.klen i.vlen r.ent)

    pub inside : Inside l i
    inside =
        let f = (fd false 0 0).placed in
        record { all = omega (arith, f.val, r.kat); key = omega (arith, f.ksmall); val = f.vsmall }

    pub onward : at < past_of i
    onward = omega (arith, r.kat)

    item_is : (seen : Bool) (kat klen : ℕ) (b : Bool) → is_equal (order_at l seen kat klen (at + 2) i.klen) ≡ b
        → entry_of l [] (record_item l (here at seen kat klen) i.klen i.vlen) ≡ entry_in l b i
    unfolding entry_of
    item_is seen kat klen b e =
        entry_by l b _ _ (at + 2) i.klen i.vlen (same-order l 0 at seen kat klen (at + 2) i.klen ∙ e) (key-bare l (at + 2) i.klen)
        ∙ ap (λ (k : ℕ). entry_at l b k i.klen i.vlen) (sym r.kat)

    rest-is : entries l [] (here past true (at + 2) i.klen) ≡ list_behind l (past_of i) i.kat i.klen
    rest-is = ap (λ (k : ℕ). entries l [] (here past true k i.klen)) (sym r.kat) ∙ ap (λ (k : ℕ). entries l [] (here k true i.kat i.klen)) past_is

    step_by : (seen : Bool) (kat klen : ℕ) (b : Bool) → is_equal (order_at l seen kat klen (at + 2) i.klen) ≡ b
        → entries l [] (here at seen kat klen) ≡ entry_in l b i ∷ list_behind l (past_of i) i.kat i.klen
    step_by seen kat klen b e =
        (fd seen kat klen).list ∙ ap (λ (x : Entry). x ∷ entries l [] (here past true (at + 2) i.klen)) (item_is seen kat klen b e)
        ∙ ap (λ (xs : List Entry). entry_in l b i ∷ xs) rest-is

    -- a head
    pub step_head : list_from l at ≡ entry_in l false i ∷ list_behind l (past_of i) i.kat i.klen
    unfolding order_at
    step_head = step_by false 0 0 false refl

    module _ (kat klen : ℕ) where
      same-is : is_equal (order_at l true kat klen (at + 2) i.klen) ≡ alike l kat klen i.kat i.klen
      unfolding order_at
      same-is = ap (λ (k : ℕ). alike l kat klen k i.klen) (sym r.kat)

      pub item_old : alike l kat klen i.kat i.klen ≡ true → same_key l (here at true kat klen) (list_key (at + 2) i.klen) ≡ true
      item_old e = same-order l 0 at true kat klen (at + 2) i.klen ∙ same-is ∙ e

      -- the key before once more
      pub step_old : alike l kat klen i.kat i.klen ≡ true → list_behind l at kat klen ≡ entry_in l true i ∷ list_behind l (past_of i) i.kat i.klen
      step_old e = step_by true kat klen true (same-is ∙ e)

      -- another key is a head's
      pub step_new : alike l kat klen i.kat i.klen ≡ false → list_behind l at kat klen ≡ list_from l at
      step_new e = step_by true kat klen false (same-is ∙ e) ∙ sym step_head

    well-behind : (seen : Bool) (kat klen : ℕ) → well_formed l [] (here at seen kat klen) ≡ well_formed l [] (here (past_of i) true i.kat i.klen)
    well-behind seen kat klen =
        (fd seen kat klen).well ∙ ap (λ (k : ℕ). well_formed l [] (here past true k i.klen)) (sym r.kat) ∙ ap (λ (k : ℕ). well_formed l [] (here k true i.kat i.klen)) past_is

-- where reading goes on does not ask which key was read before
module _ (l : List ℕ) (at : ℕ) (s : Bool) (k n : ℕ) (s' : Bool) (k' n' : ℕ) where
  well_by : at < length l → (e : Option (ℕ × ℕ)) → ent_at l at ≡ e → well_formed l [] (here at s k n) ≡ well_formed l [] (here at s' k' n')
  well_by lt (Some (x, y)) q =
      let r : Reads l at (record { kat = at + 2; klen = x; vlen = y }) = record { ent = sym q; kat = refl } in
      well-behind l at lt _ r s k n ∙ sym (well-behind l at lt _ r s' k' n')
  well_by lt None q = (odd l [] (here at s k n) (step_out l [] at s k n lt (sym q))).1 ∙ sym (odd l [] (here at s' k' n') (step_out l [] at s' k' n' lt (sym q))).1

  well-on : (b : Bool) → leb (length l) at ≡ b → well_formed l [] (here at s k n) ≡ well_formed l [] (here at s' k' n')
  well-on true q = (at-end l at (leb-true _ _ q) s k n).1 ∙ sym (at-end l at (leb-true _ _ q) s' k' n').1
  well-on false q = well_by (leb-false _ _ q) (ent_at l at) refl

  well-any : well_formed l [] (here at s k n) ≡ well_formed l [] (here at s' k' n')
  well-any = well-on (leb (length l) at) refl

pub well_past : (l : List ℕ) (at : ℕ) → at < length l → (i : RecordAt) → Reads l at i → Well l at → Well l (past_of i)
well_past l at lt i r w = well-any l (past_of i) false 0 0 true i.kat i.klen ∙ sym (well-behind l at lt i r false 0 0) ∙ w

-- no old version stands in front of a head
pub fresh : (l : List ℕ) (at : ℕ) → Well l at → old_run (list_from l at) ≡ 0
unfolding old_run
fresh l at w = go (leb (length l) at) refl
  where
    by : at < length l → (e : Option (ℕ × ℕ)) → ent_at l at ≡ e → old_run (list_from l at) ≡ 0
    by lt (Some (x, y)) q = ap old_run (step_head l at lt (record { kat = at + 2; klen = x; vlen = y }) (record { ent = sym q; kat = refl }))
    by lt None q = absurd (no_out l at lt w (sym q))

    go : (b : Bool) → leb (length l) at ≡ b → old_run (list_from l at) ≡ 0
    go true q = ap old_run (end-from l at (leb-true _ _ q))
    go false q = by (leb-false _ _ q) (ent_at l at) refl
