-- What is known of each entry that a page holds: its lengths are document 01's, its numbers have their widths, and a remote that it keeps holds its value.
-- Assumes nothing.
use Prim.Native.Nat.{ℕ, zero, suc, ◌+◌, ◌≤◌, ◌<◌}
use mathlib.Core.Path.{◌≡◌, refl, ap, ◌∙◌}
use mathlib.Core.List.{List, [], ◌∷◌, ◌++◌}
use native.Mathlib.Omega.{arith}
use lib.ListN.{length, length-append}
use Rattle.spans.specs.Span.{part}
use Rattle.spans.proofs.Part.{length_part}
use Rattle.numbers.specs.Number.{Bytes}
use Rattle.numbers.proofs.Numbers.{le_at_lt}
use Rattle.frames.specs.declared.Addr.{Addr}
use Rattle.frames.specs.declared.Body.{Body}
use Rattle.frames.specs.Layout.{Inside, remote_at}
use Rattle.frames.specs.Limits.{max_key, max_value}
use Rattle.values.specs.Keys.{ver_in}
use Rattle.records.specs.declared.Rec.{Rec}
use Rattle.records.specs.Records.{rec_at}
use Rattle.records.proofs.Inside.{at-inside, ver-inside}
use Rattle.pages.specs.Sound.{old_at, old_version}
use Rattle.pages.specs.Meaning.{prefix_of, key_of}
use Rattle.pages.proofs.Olds.{old-inside}
use Rattle.walks.proofs.Held.{rec-held}
use Rattle.walks.proofs.Lying.{index_value}
use Rattle.build_sources.specs.Source.{Entry}
use Rattle.build_sources.specs.Marks.{Each, Held, Short, Keeps}
use Rattle.law_rows.specs.Rows as rows
use Rattle.law_rows.specs.Rows.{old_entry, old_entries, head_entry, head_entries, child_entry, slot_of, slot_entries, leaf_entries, index_entries}
use Rattle.law_rows.specs.Pairs.{Carried, NoPage, NoVersion}
use Rattle.std.proofs.Common.{Option, Some, None}
use Rattle.pages.specs.declared.OldVersion.{OldVersion}

-- ---- each entry

pub each_append : {A : Type 0} (P : A → Type 0) (xs ys : List A) → Each P xs → Each P ys → Each P (xs ++ ys)
unfolding Each
each_append P [] ys f g = g
each_append P (x ∷ xs) ys f g = (f.0, each_append P xs ys f.1 g)

each_none : (P : Entry → Type 0) → Each P []
unfolding Each
each_none P = tt

each-one : (P : Entry → Type 0) (e : Entry) (es : List Entry) → P e → Each P es → Each P (e ∷ es)
unfolding Each
each-one P e es x y = (x, y)

olds-each : (P : Entry → Type 0) (w key : List ℕ) → ((a : Addr) (i : ℕ) (p : Addr) (q : ℕ) (r : Rec) → old_at w a i ≡ Some (old_version p q r) → P (old_entry w key r))
    → (k : ℕ) (a : Addr) (i : ℕ) → Each P (old_entries w key k a i)
unfolding old_entries
olds-each P w key f zero a i = each_none P
olds-each P w key f (suc k) a i = go (old_at w a i) refl (λ p q. olds-each P w key f k p (q + 1))
  where
    go : (o : Option OldVersion) → old_at w a i ≡ o → ((p : Addr) (q : ℕ) → Each P (old_entries w key k p (q + 1))) → Each P (rows.olds_of w key (old_entries w key k) o)
    go (Some o) e h = each-one P (old_entry w key o.rec) (old_entries w key k o.page (o.slot + 1)) (f a i o.page o.slot o.rec e) (h o.page o.slot)
    go None e h = each_none P

pub slots-each : (P : Entry → Type 0) (f : Rec → List Entry) (w : List ℕ) (b : Body) → ((i : ℕ) (r : Rec) → rec_at w b i ≡ Some r → Each P (f r)) → (k i : ℕ) → Each P (slot_entries f w b k i)
unfolding slot_entries
slots-each P f w b g zero i = each_none P
slots-each P f w b g (suc k) i = go (rec_at w b i) refl (slots-each P f w b g k (i + 1))
  where
    go : (o : Option Rec) → rec_at w b i ≡ o → Each P (slot_entries f w b k (i + 1)) → Each P (slot_of f (slot_entries f w b k (i + 1)) o)
    go (Some r) e h = each_append P (f r) (slot_entries f w b k (i + 1)) (g i r e) h
    go None e h = h

-- ---- one record

-- what a record's value and version are, of a leaf or a history page
record Told (w : List ℕ) (r : Rec) : Type 0 where
  val : length (part w r.val_at r.val_len) ≡ r.val_len
  small : r.val_len ≤ max_value
  held : (r.remote.0 ≡ 0 → ⊥) → Held w r.remote.0 (part w r.val_at r.val_len)
  word : r.remote.0 < 18446744073709551616
  txid : (ver_in w r.ver_at).txid < 18446744073709551616
  cmd : (ver_in w r.ver_at).cmd < 4294967296

module _ (w : List ℕ) (y : Bytes w) where
  told : (b : Body) (i : ℕ) (r : Rec) → Inside w b → (b.kind ≡ 1 → ⊥) → rec_at w b i ≡ Some r → Told w r
  unfolding ver_in
  told b i r n k e =
      let h = rec-held w y b i r e in
      let g = (at-inside w b i r n e).0 in
      let u = ver-inside w b i r n k e in
      let l = length_part w r.val_at r.val_len g.val in
      record {
        val = l;
        small = h.small;
        held = λ z. record { place = r.val_at; read = ap (λ (m : ℕ). remote_at w r.remote m) l ∙ h.held z; bytes = ap (λ (m : ℕ). part w r.val_at m) l };
        word = h.word;
        txid = le_at_lt w r.ver_at 8 (omega (arith, u)) y;
        cmd = le_at_lt w (r.ver_at + 8) 4 (omega (arith, u)) y;
      }

  old-told : (a : Addr) (i : ℕ) (p : Addr) (q : ℕ) (r : Rec) → old_at w a i ≡ Some (old_version p q r) → Told w r
  old-told a i p q r e =
      let o = old-inside w a i p q r e in
      told o.page q r o.history.inside (λ z. omega (arith, z, o.history.kind)) o.read

  -- a key of a page
  key-long : (b : Body) (i : ℕ) (r : Rec) → Inside w b → rec_at w b i ≡ Some r → length (key_of w b r) ≡ b.prefix_len + r.rest_len
  unfolding prefix_of
  key-long b i r n e =
      let g = (at-inside w b i r n e).0 in
      length-append (prefix_of w b) (part w r.rest_at r.rest_len)
      ∙ ap (λ (m : ℕ). m + length (part w r.rest_at r.rest_len)) (length_part w _ b.prefix_len (omega (arith, n.slots, n.records, n.payload, n.arena, n.prefix)))
      ∙ ap (λ (m : ℕ). b.prefix_len + m) (length_part w r.rest_at r.rest_len (omega (arith, g.rest, n.payload, n.arena)))

  key-short : (b : Body) (i : ℕ) (r : Rec) → Inside w b → rec_at w b i ≡ Some r → length (key_of w b r) ≤ max_key
  key-short b i r n e = let h = rec-held w y b i r e in omega (arith, key-long b i r n e, h.whole)

  -- ---- short, carried

  old-short : (key : List ℕ) → length key ≤ max_key → (r : Rec) → Told w r → Short (old_entry w key r)
  unfolding old_entry
  old-short key l r t = record { key = l; val = omega (arith, t.val, t.small) }

  old-carried : (key : List ℕ) (r : Rec) → Told w r → Carried w (old_entry w key r)
  unfolding old_entry Keeps
  old-carried key r t = record { wide = record { txid = t.txid; cmd = t.cmd; kept = t.word; page = omega arith }; keeps = t.held }

  head_short : (b : Body) (r : Rec) → length (key_of w b r) ≤ max_key → Told w r → Short (head_entry w b r)
  unfolding head_entry
  head_short b r l t = record { key = l; val = omega (arith, t.val, t.small) }

  head_carried : (b : Body) (r : Rec) → Told w r → Carried w (head_entry w b r)
  unfolding head_entry Keeps
  head_carried b r t = record { wide = record { txid = t.txid; cmd = t.cmd; kept = t.word; page = omega arith }; keeps = t.held }

  child-short : (b : Body) (r : Rec) → length (key_of w b r) ≤ max_key → Short (child_entry w b r)
  unfolding child_entry
  child-short b r l = record { key = l; val = omega arith }

  child-carried : (b : Body) (i : ℕ) (r : Rec) → Inside w b → b.kind ≡ 1 → rec_at w b i ≡ Some r → Carried w (child_entry w b r)
  unfolding child_entry Keeps
  child-carried b i r n k e =
      let g = (at-inside w b i r n e).0 in
      let x = index_value w b i r k e in
      record { wide = record { txid = omega arith; cmd = omega arith; kept = omega arith; page = le_at_lt w r.val_at 8 (omega (arith, g.val, x)) y }; keeps = λ z. absurd (z refl) }

  -- ---- a leaf

  -- what a head and its old versions have, where each has it
  row-each : (P : Entry → Type 0) (b : Body) (r : Rec) → P (head_entry w b r)
      → ((a : Addr) (i : ℕ) (p : Addr) (q : ℕ) (o : Rec) → old_at w a i ≡ Some (old_version p q o) → P (old_entry w (key_of w b r) o)) → Each P (head_entries w b r)
  unfolding head_entries
  row-each P b r x f = each-one P (head_entry w b r) _ x (olds-each P w (key_of w b r) f r.hist.count r.hist.page r.hist.slot)

  module _ (b : Body) (n : Inside w b) where
    module _ (leaf : b.kind ≡ 1 → ⊥) where
      pub leaf_short : (k i : ℕ) → Each Short (leaf_entries w b k i)
      leaf_short k i =
          slots-each Short (head_entries w b) w b
          (λ j r e.
          row-each Short b r (head_short b r (key-short b j r n e) (told b j r n leaf e))
          (λ a h p q o z. old-short (key_of w b r) (key-short b j r n e) o (old-told a h p q o z))) k i

      pub leaf_carried : (k i : ℕ) → Each (Carried w) (leaf_entries w b k i)
      leaf_carried k i =
          slots-each (Carried w) (head_entries w b) w b
          (λ j r e. row-each (Carried w) b r (head_carried b r (told b j r n leaf e)) (λ a h p q o z. old-carried (key_of w b r) o (old-told a h p q o z))) k i

    module _ (index : b.kind ≡ 1) where
      pub index_short : (k i : ℕ) → Each Short (index_entries w b k i)
      index_short k i = slots-each Short (λ r. child_entry w b r ∷ []) w b (λ j r e. each-one Short (child_entry w b r) [] (child-short b r (key-short b j r n e)) (each_none Short)) k i

      pub index_carried : (k i : ℕ) → Each (Carried w) (index_entries w b k i)
      index_carried k i =
          slots-each (Carried w) (λ r. child_entry w b r ∷ []) w b (λ j r e. each-one (Carried w) (child_entry w b r) [] (child-carried b j r n index e) (each_none (Carried w))) k i

  -- ---- kinds

  head_kind : (b : Body) (r : Rec) → NoPage (head_entry w b r)
  unfolding head_entry
  head_kind b r = refl

  old-kind : (key : List ℕ) (r : Rec) → NoPage (old_entry w key r)
  unfolding old_entry
  old-kind key r = refl

  child-kind : (b : Body) (r : Rec) → NoVersion (child_entry w b r)
  unfolding child_entry
  child-kind b r = refl

  pub leaf_kind : (b : Body) (k i : ℕ) → Each NoPage (leaf_entries w b k i)
  leaf_kind b k i = slots-each NoPage (head_entries w b) w b (λ j r e. row-each NoPage b r (head_kind b r) (λ a h p q o z. old-kind (key_of w b r) o)) k i

  pub index_kind : (b : Body) (k i : ℕ) → Each NoVersion (index_entries w b k i)
  index_kind b k i = slots-each NoVersion (λ r. child_entry w b r ∷ []) w b (λ j r e. each-one NoVersion (child_entry w b r) [] (child-kind b r) (each_none NoVersion)) k i
