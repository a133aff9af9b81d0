-- The lookup beside search: wherever search does not refuse the page, the answer is a function of what search finds; its slot and
-- its keys read are search's.
-- Assumes nothing.
use Prim.Native.Nat.{ℕ, ◌+◌}
use mathlib.Core.Path.{◌≡◌, refl, sym, ap, ◌∙◌}
use mathlib.Core.Bool.{Bool, true, false, ◌||◌}
use mathlib.Core.List.{List}
use native.Mathlib.Omega.{arith}
use borrow.Author.Tests.{eq-eqb, ne_eqb}
use lib.ListN.{take}
use lib.Dec.{eqb}
use Rattle.order.specs.declared.Ver.{Ver}
use Rattle.order.specs.Version.{newer_than}
use Rattle.frames.specs.declared.Addr.{Addr}
use Rattle.frames.specs.declared.Body.{Body}
use Rattle.frames.specs.declared.Refusal.{Refusal}
use Rattle.frames.specs.Layout.{open_at, Inside, remote_at}
use Rattle.values.specs.declared.HistRef.{HistRef}
use Rattle.values.specs.Vals.{val_at}
use Rattle.records.specs.declared.Rec.{Rec}
use Rattle.values.specs.Keys.{ver_in}
use Rattle.records.specs.Records.{slot_at, key_in, remote_of, val_of, val_in, rec_val, rec_key, rec_in, rec_slot, rec_at}
use Rattle.records.proofs.Inside.{at-inside, at_slot}
use Rattle.pages.specs.declared.Place.{Place}
use Rattle.pages.specs.Boundaries.{place}
use Rattle.pages.specs.Sound.{chain_from, entered}
use Rattle.pages.specs.Meaning.{Page, Head, leaf, says, meaning}
use Rattle.pages.proofs.Given.{sound_given, every_head, head_given}
use Rattle.sst.specs.Search.{leaves, outcome_at, found_rec, head_in, search_of, search_at}
use Rattle.sst.proofs.Opens.{outcome_ready, leaf_kind}
use Rattle.sst.proofs.Answers.{search_answers}
use Rattle.search_head.specs.Head.{head_slot, head_of, head_at}
use Rattle.asof.specs.AsOf.{head_pick, old_enter, older_val, older_as_of, as_of_head, as_of_at}
use Rattle.std.proofs.Common.{Option, Some, None, Result, Ok, Err}
use Rattle.asof.specs.declared.AsOf.{AsOf}
use Rattle.records.specs.declared.ValParts.{ValParts}
use Rattle.sst.specs.declared.Found.{Found}
use Rattle.sst.specs.declared.Halved.{Halved}
use Rattle.sst.specs.declared.Outcome.{Outcome}
use Rattle.values.specs.declared.KeyParts.{KeyParts}
use Rattle.values.specs.declared.Val.{Val}

-- ---- the history that a record refers to is the one that its value's front refers to (it belongs to `records`)

abbrev Refers : HistRef → Option Val → Type 0
Refers h (Some (Val.Inline h' p n next)) = h' ≡ h
Refers h (Some (Val.Remote h' a n next)) = h' ≡ h
Refers h None = ⊥

module _ (s : List ℕ) (b : Body) (i : ℕ) (r : Rec) (head : b.kind ≡ 0) where
  refers : rec_at s b i ≡ Some r → Refers r.hist (val_at (take b.end s) (r.rest_at + r.rest_len) true)
  unfolding rec_at rec_in val_in
  refers e = go (slot_at s b i) e
    where
      no : None ≡ Some r → ⊥
      no z = let y : ◌≡◌ {A = ℕ} 0 1 = cc in omega arith

      remote : (h : HistRef) (a : Addr) (p v ra rn n next : ℕ) → (x : Option ℕ) → rec_val p v ra rn (remote_of h a n next x) ≡ Some r → h ≡ r.hist
      remote h a p v ra rn n next (Some q) w = cc
      remote h a p v ra rn n next None w = absurd (no w)

      rest : (p v ra rn : ℕ) (x : Option ValParts) → rec_val p v ra rn x ≡ Some r → ra + rn ≡ r.rest_at + r.rest_len
      rest p v ra rn (Some v') w =
          let e1 : ra ≡ r.rest_at = cc in
          let e2 : rn ≡ r.rest_len = cc in
          rw (e1, e2) refl
      rest p v ra rn None w = absurd (no w)

      val : (p v ra rn : ℕ) (x : Option Val) → rec_val p v ra rn (val_of s x) ≡ Some r → Refers r.hist x
      val p v ra rn (Some (Val.Inline h q n next)) w = cc
      val p v ra rn (Some (Val.Remote h a n next)) w = remote h a p v ra rn n next (remote_at s a n) w
      val p v ra rn None w = no w

      key : (p : ℕ) (k : Option KeyParts) → rec_key s b p k ≡ Some r → Refers r.hist (val_at (take b.end s) (r.rest_at + r.rest_len) true)
      key p (Some k) w =
          let w' : rec_val p k.ver_at k.rest_at k.rest_len (val_of s (val_at (take b.end s) (k.rest_at + k.rest_len) true)) ≡ Some r = rw (ne_eqb b.kind 1 (λ z. omega arith), eq-eqb b.kind 0 head) at w in
          rw (← rest p k.ver_at k.rest_at k.rest_len (val_of s (val_at (take b.end s) (k.rest_at + k.rest_len) true)) w') (val p k.ver_at k.rest_at k.rest_len (val_at (take b.end s) (k.rest_at + k.rest_len) true) w')
      key p None w = absurd (no w)

      go : (x : Option ℕ) → rec_slot s b x ≡ Some r → Refers r.hist (val_at (take b.end s) (r.rest_at + r.rest_len) true)
      go (Some p) w = key p (key_in s b p) w
      go None w = absurd (no w)

-- ---- on every arena

-- "hand back the newest record of that key that is no newer", beside what search found
abbrev pub beside_pick : List ℕ → Ver → ℕ → Ver → HistRef → Place → ℕ → Bool → Result AsOf Refusal
beside_pick s v i ver h x n true = old_enter s v i n h
beside_pick s v i ver h x n false = Ok (AsOf.Is i ver x n)

abbrev pub beside_of : List ℕ → Ver → Result Found Refusal → Result AsOf Refusal
beside_of s v (Ok (Found.Is i ver h x n)) = beside_pick s v i ver h x n (newer_than ver v)
beside_of s v (Ok (Found.Nothing n)) = Ok (AsOf.Nothing n)
beside_of s v (Err r) = Err r

module _ (s : List ℕ) (a : Addr) (probe : List ℕ) (v : Ver) where
  older_refers : (i n : ℕ) (h : HistRef) (x : Option Val) → Refers h x → older_val s v i n x ≡ old_enter s v i n h
  older_refers i n h (Some (Val.Inline h' p m next)) e = ap (old_enter s v i n) e
  older_refers i n h (Some (Val.Remote h' b m next)) e = ap (old_enter s v i n) e
  older_refers i n h None e = absurd e

  of_record : (b : Body) (i n : ℕ) → Inside s b → b.kind ≡ 0 → (r : Option Rec) → rec_at s b i ≡ r → (found_rec s i n r ≡ Err Refusal.BadFrame → ⊥)
      → as_of_head s v (head_slot s b i n) ≡ beside_of s v (found_rec s i n r)
  unfolding head_slot older_as_of
  of_record b i n j k (Some r) e f = rw (at-inside s b i r j e).1 (by (newer_than ver v))
    where
      ver : Ver
      ver = ver_in s r.ver_at

      by : (t : Bool) → head_pick s v b i ver (r.rest_at + r.rest_len) n t ≡ beside_pick s v i ver r.hist (place r.val_at r.val_len) n t
      by true = older_refers i n r.hist (val_at (take b.end s) (r.rest_at + r.rest_len) true) (refers s b i r k e)
      by false = rw e refl
  of_record b i n j k None e f = absurd (f refl)

  of_outcome : (o : Option Outcome) → outcome_at s a probe leaves ≡ o → (search_of s o ≡ Err Refusal.BadFrame → ⊥) → as_of_head s v (head_of s o) ≡ beside_of s v (search_of s o)
  unfolding head_in
  of_outcome (Some (Outcome.Stands b (Some (Halved.At i n)))) q f =
      let g = (outcome_ready s a probe leaves b (Some (Halved.At i n)) q).0 in
      of_record b i n g.inside (leaf_kind b.kind g.right) (rec_at s b i) refl f
  of_outcome (Some (Outcome.Stands b (Some (Halved.End p n)))) q f = refl
  of_outcome (Some (Outcome.Stands b None)) q f = absurd (f refl)
  of_outcome (Some Outcome.Empty) q f = refl
  of_outcome None q f = absurd (f refl)

  pub as_of_searched : (search_at s a probe ≡ Err Refusal.BadFrame → ⊥) → as_of_at s a probe v ≡ beside_of s v (search_at s a probe)
  unfolding as_of_at head_at search_at
  as_of_searched f = of_outcome (outcome_at s a probe leaves) refl f

-- search's answer as one of the lookup: where the head is no newer
abbrev pub as_found : Result Found Refusal → Result AsOf Refusal
as_found (Ok (Found.Is i ver h x n)) = Ok (AsOf.Is i ver x n)
as_found (Ok (Found.Nothing n)) = Ok (AsOf.Nothing n)
as_found (Err r) = Err r

-- ---- on a leaf page with a meaning

module _ (s : List ℕ) (a : Addr) (p : Page) (m : meaning s a ≡ says p) (probe : List ℕ) (hs : List Head) (e : p.rows ≡ leaf hs) (v : Ver) where
  pub as_of_beside : as_of_at s a probe v ≡ beside_of s v (search_at s a probe)
  as_of_beside = as_of_searched s a probe v (search_answers s a p m probe Refusal.BadFrame hs e)

-- the history of what search found there is sound
abbrev pub Resolves : List ℕ → Result Found Refusal → Type 0
Resolves s (Ok (Found.Is i ver h x n)) = ((eqb h.count 0 || entered s h.page h.slot) ≡ true) × (chain_from s h.count h.page h.slot ver ≡ true)
Resolves s (Ok (Found.Nothing n)) = Unit {0}
Resolves s (Err r) = Unit {0}

module _ (s : List ℕ) (a : Addr) (p : Page) (m : meaning s a ≡ says p) (probe : List ℕ) where
  of_sound : (b : Body) (i n : ℕ) → open_at s a ≡ Some b → b.kind ≡ 0 → (r : Option Rec) → rec_at s b i ≡ r → Resolves s (found_rec s i n r)
  of_sound b i n o k (Some r) e =
      let g = sound_given s a p m in
      let z : Some g.body ≡ Some b = sym g.opened ∙ o in
      let z' : b ≡ g.body = cc in
      head_given s r (every_head s g.body g.chains (λ y. omega (arith, ap (λ (d : Body). d.kind) z', k, y)) i (rw (← z') (at_slot s b i r e)) r (rw (← z') e))
  of_sound b i n o k None e = tt

  resolves : (o : Option Outcome) → outcome_at s a probe leaves ≡ o → Resolves s (search_of s o)
  unfolding head_in
  resolves (Some (Outcome.Stands b (Some (Halved.At i n)))) q =
      let g = (outcome_ready s a probe leaves b (Some (Halved.At i n)) q).0 in
      of_sound b i n g.opened (leaf_kind b.kind g.right) (rec_at s b i) refl
  resolves (Some (Outcome.Stands b (Some (Halved.End j n)))) q = tt
  resolves (Some (Outcome.Stands b None)) q = tt
  resolves (Some Outcome.Empty) q = tt
  resolves None q = tt

  pub search_resolves : Resolves s (search_at s a probe)
  unfolding search_at
  search_resolves = resolves (outcome_at s a probe leaves) refl
