-- What the overlay answers, in the words of document 01: the delta's value, the page's as search finds it, none, or the number.
-- Assumes nothing.
use mathlib.Core.Path.{◌≡◌, refl, sym, ap, ◌∙◌}
use mathlib.Core.List.{List}
use mathlib.Core.Bool.{Bool, true, false}
use Prim.Native.Nat.{ℕ}
use native.Mathlib.Omega.{arith}
use Rattle.order.specs.declared.Ver.{Ver}
use Rattle.order.specs.Order.{is_equal, cmp_bytes}
use Rattle.order.specs.Version.{newer_than}
use Rattle.order.proofs.Laws.{cmp_same, cmp_eq}
use Rattle.frames.specs.declared.Addr.{Addr}
use Rattle.frames.specs.declared.Body.{Body}
use Rattle.frames.specs.declared.Refusal.{Refusal}
use Rattle.records.specs.Records.{rec_at}
use Rattle.pages.specs.declared.Place.{Place}
use Rattle.pages.specs.Boundaries.{place, part_in}
use Rattle.values.specs.declared.HistRef.{HistRef}
use Rattle.sst.specs.Search.{leaves, outcome_at, found_rec, head_in, search_of, search_at}
use Rattle.delta.specs.Read.{leaf_key_at, keyed}
use Rattle.search_head.specs.Head.{head_of, head_at}
use Rattle.search_head.proofs.Heads.{head_from}
use Rattle.overlay.specs.Overlay.{page_rec, page_value, is_probe, delta_value, laid_by, laid_at}
use Rattle.std.proofs.Common.{Option, Some, None, Ok, Err}
use Rattle.overlay.specs.declared.Laid.{Laid}
use Rattle.records.specs.declared.Rec.{Rec}
use Rattle.search_head.specs.declared.Head.{Head}
use Rattle.sst.specs.declared.Found.{Found}
use Rattle.sst.specs.declared.Halved.{Halved}
use Rattle.sst.specs.declared.Outcome.{Outcome}
use Rattle.std.specs.declared.cmp.Ordering.{Ordering}

-- "the delta's key is the probe": the very same bytes
pub probe_same : (t : List ℕ) (key : Place) (probe : List ℕ) → part_in t key ≡ probe → is_probe t key probe ≡ true
unfolding is_probe
probe_same t key probe e = rw e (ap is_equal (cmp_same probe))

pub probe_is : (t : List ℕ) (key : Place) (probe : List ℕ) → is_probe t key probe ≡ true → part_in t key ≡ probe
unfolding is_probe
probe_is t key probe e = go (cmp_bytes (part_in t key) probe) refl e
  where
    go : (o : Ordering) → cmp_bytes (part_in t key) probe ≡ o → is_equal o ≡ true → part_in t key ≡ probe
    go Ordering.Equal q e' = cmp_eq (part_in t key) probe q
    go Ordering.Less q e' = absurd (let z : ◌≡◌ {A = ℕ} 0 1 = cc in omega arith)
    go Ordering.Greater q e' = absurd (let z : ◌≡◌ {A = ℕ} 0 1 = cc in omega arith)

module _ (s : List ℕ) (a : Addr) (t : List ℕ) (d : Addr) (probe : List ℕ) where
  -- "the delta's key [is] judged for 4"
  pub bad_delta : (r : Refusal) → leaf_key_at t d ≡ Err r → laid_at s a t d probe ≡ Err r
  unfolding laid_at
  bad_delta r e = rw e refl

  module _ (ver : Ver) (key : Place) (k : leaf_key_at t d ≡ Ok (keyed ver key)) where
    on : laid_at s a t d probe ≡ laid_by s t d (is_probe t key probe) ver (head_at s a probe)
    unfolding laid_at
    on = rw k refl

    -- the page's side refuses: 4
    pub bad_page : (r : Refusal) → head_at s a probe ≡ Err r → laid_at s a t d probe ≡ Err r
    unfolding laid_by
    bad_page r e = on ∙ rw e refl

    -- "or the page has none": the delta's value
    pub delta_alone : (n : ℕ) → head_at s a probe ≡ Ok (Head.Nothing n) → part_in t key ≡ probe → laid_at s a t d probe ≡ delta_value t d
    unfolding laid_by
    delta_alone n e p = on ∙ rw (e, probe_same t key probe p) refl

    pub neither : (n : ℕ) → head_at s a probe ≡ Ok (Head.Nothing n) → is_probe t key probe ≡ false → laid_at s a t d probe ≡ Ok Laid.Nothing
    unfolding laid_by
    neither n e p = on ∙ rw (e, p) refl

    module _ (b : Body) (i : ℕ) (v : Ver) (at m : ℕ) (e : head_at s a probe ≡ Ok (Head.Is b i v at m)) where
      -- "it is no older than the page's head"; equal versions: the delta
      pub delta_wins : part_in t key ≡ probe → newer_than v ver ≡ false → laid_at s a t d probe ≡ delta_value t d
      unfolding laid_by
      delta_wins p n = on ∙ rw (e, probe_same t key probe p, n) refl

      -- "otherwise the page's"
      pub page_newer : newer_than v ver ≡ true → laid_at s a t d probe ≡ page_value s b i
      unfolding laid_by
      page_newer n = on ∙ by (is_probe t key probe)
        where
          by : (m : Bool) → laid_by s t d m ver (head_at s a probe) ≡ page_value s b i
          by true = rw (e, n) refl
          by false = rw e refl

      pub page_other : is_probe t key probe ≡ false → laid_at s a t d probe ≡ page_value s b i
      unfolding laid_by
      page_other p = on ∙ rw (e, p) refl

-- ---- the page's side is search's: the same head, and the same place of its value

pub none_searched : (s : List ℕ) (a : Addr) (probe : List ℕ) (n : ℕ) → search_at s a probe ≡ Ok (Found.Nothing n) → head_at s a probe ≡ Ok (Head.Nothing n)
unfolding search_at head_at head_in
none_searched s a probe n e = go (outcome_at s a probe leaves) e
  where
    rec : (i m : ℕ) (r : Option Rec) → found_rec s i m r ≡ Ok (Found.Nothing n) → ⊥
    rec i m (Some r) e' = let z : ◌≡◌ {A = ℕ} 0 1 = cc in omega arith
    rec i m None e' = let z : ◌≡◌ {A = ℕ} 0 1 = cc in omega arith

    go : (o : Option Outcome) → search_of s o ≡ Ok (Found.Nothing n) → head_of s o ≡ Ok (Head.Nothing n)
    go (Some (Outcome.Stands b (Some (Halved.At i m)))) e' = absurd (rec i m (rec_at s b i) e')
    go (Some (Outcome.Stands b (Some (Halved.End p m)))) e' = cc
    go (Some (Outcome.Stands b None)) e' = absurd (let z : ◌≡◌ {A = ℕ} 0 1 = cc in omega arith)
    go (Some Outcome.Empty) e' = cc
    go None e' = absurd (let z : ◌≡◌ {A = ℕ} 0 1 = cc in omega arith)

pub page_searched : (s : List ℕ) (a : Addr) (probe : List ℕ) (b : Body) (i : ℕ) (v w : Ver) (h : HistRef) (p : Place) (at m j n : ℕ)
    → head_at s a probe ≡ Ok (Head.Is b i v at m) → search_at s a probe ≡ Ok (Found.Is j w h p n) → page_value s b i ≡ Ok (Laid.Page p)
unfolding search_at head_in page_value
page_searched s a probe b i v w h p at m j n e f = go (rec_at s b i) (sym (ap (search_of s) (head_from s a probe b i v at m e).found) ∙ f)
  where
    go : (r : Option Rec) → found_rec s i m r ≡ Ok (Found.Is j w h p n) → page_rec r ≡ Ok (Laid.Page p)
    go (Some r) q = let x : place r.val_at r.val_len ≡ p = cc in ap (λ x0. Ok (Laid.Page x0)) x
    go None q = absurd (let z : ◌≡◌ {A = ℕ} 0 1 = cc in omega arith)
