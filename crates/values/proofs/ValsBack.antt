-- Values: what was written reads back, and what was read is what would have been written.
-- Assumes nothing.
use mathlib.Core.Path.{◌≡◌, refl, sym, ap, ap₂, ◌∙◌, subst}
use mathlib.Core.List.{List, [], ◌∷◌, ◌++◌}
use mathlib.Core.Bool.{Bool, true, false, cond, ◌||◌}
use Prim.Native.Nat.{ℕ, zero, suc, ◌+◌, ◌%◌, ◌^◌, ◌≤◌, ◌<◌}
use native.Mathlib.Omega.{arith}
use borrow.Author.Tests.{le-leb, lt-leb, leb-true, lt-ltb, ltb-true, eqb-true, eqb-false, eq-eqb, ne_eqb}
use lib.Dec.{leb, ltb, eqb}
use lib.ListN.{length, get_or, length-append}
use Rattle.spans.specs.Span.{part, Lies}
use Rattle.spans.proofs.Part.{length_part}
use Rattle.spans.proofs.Tests.{ask, dont}
use Rattle.spans.proofs.Lying.{lies_front, lies_back, lies_in, lies_head, lies_append, part_lies}
use Rattle.numbers.specs.Number.{le, le_at, Bytes}
use Rattle.numbers.proofs.Numbers.{length-le, lies_le, le_lies, le_at-one}
use Rattle.frames.specs.declared.Addr.{Addr}
use Rattle.frames.specs.Limits.{max_value}
use Rattle.values.specs.declared.HistRef.{HistRef}
use Rattle.values.specs.Vals.{addr_of, hist_of, no_hist, flag_of, hist_bytes, front_bytes, front_size, inline_bytes, remote_bytes, ref_at, front_at, val_of, val_at, front_places}
use Rattle.values.proofs.Laws.{length_hist, length_front, length_inline, length-remote, front-some, front_parts, hist_some, hist_none}
use Rattle.std.proofs.Common.{Option, Some, None}
use Rattle.values.specs.declared.Front.{Front}
use Rattle.values.specs.declared.Val.{Val}

-- a history reference's numbers fit their fields
pub record SmallHist (h : HistRef) : Type 0 where
  pub page : h.page.0 < 256 ^ 8
  pub slot : h.slot < 256 ^ 2
  pub count : h.count < 256 ^ 4

-- a reference without old versions reads back as the empty one
abbrev pub canon : HistRef → HistRef
canon h = cond (eqb h.count 0) no_hist h

-- history stands behind a head only
abbrev pub Allowed : HistRef → Bool → Type 0
Allowed h head = eqb h.count 0 ≡ false → head ≡ true

-- ---- the reader's cases

module _ (s : List ℕ) (at : ℕ) (head : Bool) (in_s : at < length s) where
  pub front-plain : (remote : Bool) → get_or s at 0 ≡ cond remote 2 0 → front_at s at head ≡ Some (front_places no_hist remote (at + 1))
  unfolding front_at
  front-plain true e = rw (lt-ltb at (length s) in_s, e) refl
  front-plain false e = rw (lt-ltb at (length s) in_s, e) refl

  pub front_hist : (remote : Bool) → head ≡ true → get_or s at 0 ≡ cond remote 3 1 → front_at s at head ≡ ref_at s (at + 1) remote
  unfolding front_at
  front_hist true q e = rw (lt-ltb at (length s) in_s, e, q) refl
  front_hist false q e = rw (lt-ltb at (length s) in_s, e, q) refl

module _ (s : List ℕ) (h : HistRef) (next n : ℕ) (r4 : next + 4 ≤ length s) (size : le_at 4 s next ≡ n) (small : n ≤ max_value) where
  pub val_inline : next + 4 + n ≤ length s → val_of s (Some (front_places h false next)) ≡ Some (Val.Inline h (next + 4) n (next + 4 + n))
  val_inline r = simp (le-leb (next + 4) (length s) r4, size, le-leb n max_value small, le-leb (next + 4 + n) (length s) r)

  pub val-remote : (a : ℕ) → next + 12 ≤ length s → le_at 8 s (next + 4) ≡ a → val_of s (Some (front_places h true next)) ≡ Some (Val.Remote h (addr_of a) n (next + 12))
  val-remote a r e = simp (le-leb (next + 4) (length s) r4, size, le-leb n max_value small, le-leb (next + 12) (length s) r, e)

-- ---- written, then read

flag_none : (c : ℕ) (remote : Bool) → eqb c 0 ≡ true → flag_of c remote % 256 ≡ cond remote 2 0
unfolding flag_of
flag_none c true e = rw e refl
flag_none c false e = rw e refl

flag_some : (c : ℕ) (remote : Bool) → eqb c 0 ≡ false → flag_of c remote % 256 ≡ cond remote 3 1
unfolding flag_of
flag_some c true e = rw e refl
flag_some c false e = rw e refl

module _ (s : List ℕ) (at : ℕ) (h : HistRef) (remote : Bool) (n : ℕ) (lies : Lies s at (front_bytes h remote n)) where
  flag_byte : get_or s at 0 ≡ flag_of h.count remote % 256
  unfolding front_bytes le
  flag_byte = lies_head s at (flag_of h.count remote % 256) [] (lies_front s at (le 1 (flag_of h.count remote)) (hist_bytes h ++ le 4 n) lies)

  rest : Lies s (at + 1) (hist_bytes h ++ le 4 n)
  unfolding front_bytes le
  rest = lies_back s at (le 1 (flag_of h.count remote)) (hist_bytes h ++ le 4 n) lies

  inside : at + front_size h.count ≤ length s
  inside = omega (arith, length_front h remote n, lies_in s at (front_bytes h remote n) (omega (arith, length_front h remote n, front-some h.count)) lies)

  -- where the size stands
  abbrev next : ℕ
  next = at + 1 + length (hist_bytes h)

  pub next-is : next + 4 ≡ at + front_size h.count
  next-is = omega (arith, front_parts h)

  pub size_is : n < 256 ^ 4 → le_at 4 s next ≡ n
  size_is l = lies_le s next 4 n l (lies_back s (at + 1) (hist_bytes h) (le 4 n) rest)

  reference : eqb h.count 0 ≡ false → SmallHist h → ref_at s (at + 1) remote ≡ Some (front_places h remote (at + 1 + 14))
  unfolding ref_at
  reference e w =
      let p = le 8 h.page.0 in
      let q = le 2 h.slot in
      let c = le 4 h.count in
      let all : Lies s (at + 1) (p ++ (q ++ c)) = subst (λ (x : List ℕ). Lies s (at + 1) x) (hist_some h e) (lies_front s (at + 1) (hist_bytes h) (le 4 n) rest) in
      let back : Lies s (at + 1 + length p) (q ++ c) = lies_back s (at + 1) p (q ++ c) all in
      let e8 : at + 1 + length p ≡ at + 1 + 8 = ap (λ (k : ℕ). at + 1 + k) (length-le 8 h.page.0) in
      let e10 : at + 1 + length p + length q ≡ at + 1 + 10 = omega (arith, length-le 8 h.page.0, length-le 2 h.slot) in
      let pages : le_at 8 s (at + 1) ≡ h.page.0 = lies_le s (at + 1) 8 h.page.0 w.page (lies_front s (at + 1) p (q ++ c) all) in
      let slots : le_at 2 s (at + 1 + 8) ≡ h.slot =
      lies_le s (at + 1 + 8) 2 h.slot w.slot (subst (λ (k : ℕ). Lies s k q) e8 (lies_front s (at + 1 + length p) q c back)) in
      let counts : le_at 4 s (at + 1 + 10) ≡ h.count =
      lies_le s (at + 1 + 10) 4 h.count w.count (subst (λ (k : ℕ). Lies s k c) e10 (lies_back s (at + 1 + length p) q c back)) in
      let room : at + 1 + 14 ≤ length s = omega (arith, inside, front_parts h, length_hist h ∙ ap (λ (b : Bool). cond b 0 14) e) in
      rw (le-leb (at + 1 + 14) (length s) room, counts, e, pages, slots) refl

  -- what the flag and the history read back as
  pub front_back : (head : Bool) → Allowed h head → SmallHist h → front_at s at head ≡ Some (front_places (canon h) remote next)
  front_back head ok w = go (eqb h.count 0) refl
    where
      in_s : at < length s
      in_s = omega (arith, inside, front-some h.count)

      go : (b : Bool) → eqb h.count 0 ≡ b → front_at s at head ≡ Some (front_places (canon h) remote next)
      go true e =
          front-plain s at head in_s remote (flag_byte ∙ flag_none h.count remote e)
          ∙ ap₂ (λ (x : HistRef) (k : ℕ). Some (front_places x remote k)) (sym (ap (λ (b : Bool). cond b no_hist h) e))
          (omega (arith, length_hist h ∙ ap (λ (b : Bool). cond b 0 14) e))
      go false e =
          front_hist s at head in_s remote (ok e) (flag_byte ∙ flag_some h.count remote e)
          ∙ reference e w
          ∙ ap₂ (λ (x : HistRef) (k : ℕ). Some (front_places x remote k)) (sym (ap (λ (b : Bool). cond b no_hist h) e))
          (omega (arith, length_hist h ∙ ap (λ (b : Bool). cond b 0 14) e))

-- an inline value: its bytes stand behind the front
module _ (s : List ℕ) (at : ℕ) (h : HistRef) (v : List ℕ) (head : Bool) (ok : Allowed h head) (w : SmallHist h) (small : length v ≤ max_value) (lies : Lies s at (inline_bytes h v)) where
  lead : Lies s at (front_bytes h false (length v))
  unfolding inline_bytes
  lead = lies_front s at (front_bytes h false (length v)) v lies

  pub inline_bytes_lem : Lies s (at + front_size h.count) v
  unfolding inline_bytes
  inline_bytes_lem = subst (λ (k : ℕ). Lies s (at + k) v) (length_front h false (length v)) (lies_back s at (front_bytes h false (length v)) v lies)

  whole : at + (front_size h.count + length v) ≤ length s
  whole = omega (arith, length_inline h v, lies_in s at (inline_bytes h v) (omega (arith, length_inline h v, front-some h.count)) lies)

  pub inline_back : val_at s at head ≡ Some (Val.Inline (canon h) (at + front_size h.count) (length v) (at + front_size h.count + length v))
  unfolding val_at
  inline_back =
      let k = next-is s at h false (length v) lead in
      ap (val_of s) (front_back s at h false (length v) lead head ok w)
      ∙ val_inline s (canon h) _ (length v) (omega (arith, k, whole)) (size_is s at h false (length v) lead (omega arith)) small (omega (arith, k, whole))
      ∙ ap (λ (j : ℕ). Some (Val.Inline (canon h) j (length v) (j + length v))) k

-- a remote value: its address stands there
module _ (s : List ℕ) (at : ℕ) (h : HistRef) (n a : ℕ) (head : Bool) (ok : Allowed h head) (w : SmallHist h) (small : n ≤ max_value) (remote : a < 256 ^ 8) (lies : Lies s at (remote_bytes h n a)) where
  lead' : Lies s at (front_bytes h true n)
  unfolding remote_bytes
  lead' = lies_front s at (front_bytes h true n) (le 8 a) lies

  whole' : at + (front_size h.count + 8) ≤ length s
  whole' = omega (arith, length-remote h n a, lies_in s at (remote_bytes h n a) (omega (arith, length-remote h n a, front-some h.count)) lies)

  pub remote_back : val_at s at head ≡ Some (Val.Remote (canon h) (addr_of a) n (at + (front_size h.count + 8)))
  unfolding val_at remote_bytes
  remote_back =
      let k = next-is s at h true n lead' in
      let e : at + length (front_bytes h true n) ≡ at + 1 + length (hist_bytes h) + 4 = omega (arith, k, length_front h true n) in
      ap (val_of s) (front_back s at h true n lead' head ok w)
      ∙ val-remote s (canon h) _ n (omega (arith, k, whole')) (size_is s at h true n lead' (omega arith)) small a (omega (arith, k, whole'))
      (lies_le s _ 8 a remote (subst (λ (j : ℕ). Lies s j (le 8 a)) e (lies_back s at (front_bytes h true n) (le 8 a) lies)))
      ∙ ap (λ (j : ℕ). Some (Val.Remote (canon h) (addr_of a) n j)) (omega (arith, k))

-- ---- read, then written

pub record FrontSays (s : List ℕ) (at : ℕ) (head : Bool) (h : HistRef) (remote : Bool) (next : ℕ) : Type 0 where
  pub flag : Lies s at (le 1 (flag_of h.count remote))
  pub hist : Lies s (at + 1) (hist_bytes h)
  pub behind : next ≡ at + 1 + length (hist_bytes h)
  pub ends : next ≤ length s
  pub allowed : Allowed h head

-- a flag is that of its own reading
flag_plain : (x : ℕ) → x ≤ 3 → (eqb x 0 || eqb x 2) ≡ true → flag_of 0 (eqb x 2) ≡ x
unfolding flag_of
flag_plain zero m t = refl
flag_plain (suc zero) m t = absurd (let y : ◌≡◌ {A = ℕ} 0 1 = cc in omega arith)
flag_plain (suc (suc zero)) m t = refl
flag_plain (suc (suc (suc zero))) m t = absurd (let y : ◌≡◌ {A = ℕ} 0 1 = cc in omega arith)
flag_plain (suc (suc (suc (suc x)))) m t = absurd (omega arith)

flag_refers : (c x : ℕ) → eqb c 0 ≡ false → x ≤ 3 → (eqb x 0 || eqb x 2) ≡ false → flag_of c (eqb x 3) ≡ x
unfolding flag_of
flag_refers c zero n m t = absurd (let y : ◌≡◌ {A = ℕ} 0 1 = cc in omega arith)
flag_refers c (suc zero) n m t = rw n refl
flag_refers c (suc (suc zero)) n m t = absurd (let y : ◌≡◌ {A = ℕ} 0 1 = cc in omega arith)
flag_refers c (suc (suc (suc zero))) n m t = rw n refl
flag_refers c (suc (suc (suc (suc x)))) n m t = absurd (omega arith)

module _ (s : List ℕ) (at : ℕ) (head : Bool) (h : HistRef) (remote : Bool) (next : ℕ) (hb : Bytes s) where
  no_front : None ≡ Some (front_places h remote next) → ⊥
  no_front e = let z : ◌≡◌ {A = ℕ} 0 1 = cc in omega arith

  fields : (h' : HistRef) (remote' : Bool) (next' : ℕ) → Some (front_places h' remote' next') ≡ Some (front_places h remote next) → (h' ≡ h) × (remote' ≡ remote) × (next' ≡ next)
  fields h' remote' next' e = (grind arith, grind arith, grind arith)

  flag_lies : at < length s → flag_of h.count remote ≡ get_or s at 0 → Lies s at (le 1 (flag_of h.count remote))
  flag_lies l e = subst (λ (k : ℕ). Lies s at (le 1 k)) (le_at-one s at l ∙ sym e) (le_lies s at 1 (omega arith) hb)

  ref-read : ref_at s (at + 1) remote ≡ Some (front_places h remote next) → (eqb h.count 0 ≡ false) × Lies s (at + 1) (hist_bytes h) × (next ≡ at + 1 + length (hist_bytes h)) × (next ≤ length s)
  unfolding ref_at
  ref-read e =
      let r = hist_of (le_at 8 s (at + 1)) (le_at 2 s (at + 1 + 8)) (le_at 4 s (at + 1 + 10)) in
      let a = ask (leb (at + 1 + 14) (length s)) (cond (eqb (le_at 4 s (at + 1 + 10)) 0) None (Some (front_places r remote (at + 1 + 14)))) None (Some (front_places h remote next)) no_front e in
      let b = dont (eqb (le_at 4 s (at + 1 + 10)) 0) None (Some (front_places r remote (at + 1 + 14))) (Some (front_places h remote next)) no_front a.1 in
      let f = fields r remote (at + 1 + 14) b.1 in
      let room : at + 1 + 14 ≤ length s = leb-true (at + 1 + 14) (length s) a.0 in
      let some : eqb h.count 0 ≡ false = sym (ap (λ (x : HistRef). eqb x.count 0) f.0) ∙ b.0 in
      let p = le 8 r.page.0 in
      let q = le 2 r.slot in
      let c = le 4 r.count in
      let e8 : at + 1 + 8 ≡ at + 1 + length p = ap (λ (k : ℕ). at + 1 + k) (sym (length-le 8 r.page.0)) in
      let e10 : at + 1 + 10 ≡ at + 1 + length p + length q = omega (arith, length-le 8 r.page.0, length-le 2 r.slot) in
      let back : Lies s (at + 1 + length p) (q ++ c) =
      lies_append s (at + 1 + length p) q c (subst (λ (k : ℕ). Lies s k q) e8 (le_lies s (at + 1 + 8) 2 (omega arith) hb)) (subst (λ (k : ℕ). Lies s k c) e10 (le_lies s (at + 1 + 10) 4 (omega arith) hb)) in
      let all : Lies s (at + 1) (p ++ (q ++ c)) = lies_append s (at + 1) p (q ++ c) (le_lies s (at + 1) 8 (omega arith) hb) back in (
        some,
        subst (λ (x : HistRef). Lies s (at + 1) (hist_bytes x)) f.0 (subst (λ (x : List ℕ). Lies s (at + 1) x) (sym (hist_some r b.0)) all),
        omega (arith, f.2, length_hist h ∙ ap (λ (t : Bool). cond t 0 14) some),
        omega (arith, f.2),
      )

  nothing : Lies s (at + 1) []
  unfolding Lies part
  nothing = refl

  plain : at < length s → get_or s at 0 ≤ 3 → (eqb (get_or s at 0) 0 || eqb (get_or s at 0) 2) ≡ true
      → Some (front_places no_hist (eqb (get_or s at 0) 2) (at + 1)) ≡ Some (front_places h remote next) → FrontSays s at head h remote next
  unfolding hist_bytes
  plain l m t e =
      let f = fields no_hist (eqb (get_or s at 0) 2) (at + 1) e in
      let none : h.count ≡ 0 = sym (ap (λ (x : HistRef). x.count) f.0) in
      let none' : eqb h.count 0 ≡ true = eq-eqb h.count 0 none in
      record {
        flag = flag_lies l (ap (λ (b : Bool). flag_of h.count b) (sym f.1) ∙ ap (λ (c : ℕ). flag_of c (eqb (get_or s at 0) 2)) none ∙ flag_plain (get_or s at 0) m t);
        hist = subst (λ (x : List ℕ). Lies s (at + 1) x) (sym (hist_none h none')) nothing;
        behind = omega (arith, f.2, ap length (hist_none h none'));
        ends = omega (arith, f.2);
        allowed = λ x. absurd (let z : true ≡ false = sym none' ∙ x in let y : ◌≡◌ {A = ℕ} 0 1 = cc in omega arith);
      }

  refers : at < length s → get_or s at 0 ≤ 3 → (eqb (get_or s at 0) 0 || eqb (get_or s at 0) 2) ≡ false → head ≡ true
      → ref_at s (at + 1) (eqb (get_or s at 0) 3) ≡ Some (front_places h remote next) → FrontSays s at head h remote next
  unfolding ref_at
  refers l m t hd e =
      let fe : eqb (get_or s at 0) 3 ≡ remote = remote_of_lem (eqb (get_or s at 0) 3) e in
      let r = ref-read (subst (λ (b : Bool). ref_at s (at + 1) b ≡ Some (front_places h remote next)) fe e) in
      record {
        flag = flag_lies l (ap (flag_of h.count) (sym fe) ∙ flag_refers h.count (get_or s at 0) r.0 m t);
        hist = r.1;
        behind = r.2;
        ends = r.3;
        allowed = λ _. hd;
      }
    where
      pick : (t u : Bool) (f : Bool) (x : HistRef) (k : ℕ) → cond t (cond u None (Some (front_places x f k))) None ≡ Some (front_places h remote next) → f ≡ remote
      pick true true f x k q = absurd (no_front q)
      pick true false f x k q = (fields x f k q).1
      pick false u f x k q = absurd (no_front q)

      remote_of_lem : (f : Bool) → ref_at s (at + 1) f ≡ Some (front_places h remote next) → f ≡ remote
      remote_of_lem f q = pick (leb (at + 1 + 14) (length s)) (eqb (le_at 4 s (at + 1 + 10)) 0) f (hist_of (le_at 8 s (at + 1)) (le_at 2 s (at + 1 + 8)) (le_at 4 s (at + 1 + 10))) (at + 1 + 14) q

  pub front_read : front_at s at head ≡ Some (front_places h remote next) → FrontSays s at head h remote next
  unfolding front_at
  front_read e =
      let x = get_or s at 0 in
      let a = ask (ltb at (length s)) _ None (Some (front_places h remote next)) no_front e in
      let b = ask (leb x 3) _ None (Some (front_places h remote next)) no_front a.1 in
      let l : at < length s = ltb-true at (length s) a.0 in
      let m : x ≤ 3 = leb-true x 3 b.0 in
      go (eqb x 0 || eqb x 2) refl l m b.1
    where
      go : (t : Bool) → (eqb (get_or s at 0) 0 || eqb (get_or s at 0) 2) ≡ t → at < length s → get_or s at 0 ≤ 3
          → cond (eqb (get_or s at 0) 0 || eqb (get_or s at 0) 2) (Some (front_places no_hist (eqb (get_or s at 0) 2) (at + 1))) (cond head (ref_at s (at + 1) (eqb (get_or s at 0) 3)) None) ≡ Some (front_places h remote next)
          → FrontSays s at head h remote next
      go true q l m e = plain l m q (sym (ap (λ (t : Bool). cond t (Some (front_places no_hist (eqb (get_or s at 0) 2) (at + 1))) (cond head (ref_at s (at + 1) (eqb (get_or s at 0) 3)) None)) q) ∙ e)
      go false q l m e =
          let f = sym (ap (λ (t : Bool). cond t (Some (front_places no_hist (eqb (get_or s at 0) 2) (at + 1))) (cond head (ref_at s (at + 1) (eqb (get_or s at 0) 3)) None)) q) ∙ e in
          let d = ask head (ref_at s (at + 1) (eqb (get_or s at 0) 3)) None (Some (front_places h remote next)) no_front f in
          refers l m q d.0 d.1

-- the size, and the bytes or the address
module _ (s : List ℕ) (at : ℕ) (head : Bool) (hb : Bytes s) where
  pub record InlineSays (h : HistRef) (p n next : ℕ) : Type 0 where
    pub lies : Lies s at (inline_bytes h (part s p n))
    pub place : p ≡ at + front_size h.count
    pub behind : next ≡ p + n
    pub ends : next ≤ length s
    pub small : n ≤ max_value
    pub allowed : Allowed h head

  pub record RemoteSays (h : HistRef) (a n next : ℕ) : Type 0 where
    pub lies : Lies s at (remote_bytes h n a)
    pub behind : next ≡ at + (front_size h.count + 8)
    pub ends : next ≤ length s
    pub small : n ≤ max_value
    pub allowed : Allowed h head

  joined : (h : HistRef) (v : List ℕ) → Lies s at (front_bytes h false (length v)) → Lies s (at + length (front_bytes h false (length v))) v → Lies s at (inline_bytes h v)
  unfolding inline_bytes
  joined h v x y = lies_append s at (front_bytes h false (length v)) v x y

  joined_remote : (h : HistRef) (n a : ℕ) → Lies s at (front_bytes h true n) → Lies s (at + length (front_bytes h true n)) (le 8 a) → Lies s at (remote_bytes h n a)
  unfolding remote_bytes
  joined_remote h n a x y = lies_append s at (front_bytes h true n) (le 8 a) x y

  -- flag, history and size lie there
  fronted : (h : HistRef) (remote : Bool) (next : ℕ) → FrontSays s at head h remote next → next + 4 ≤ length s → Lies s at (front_bytes h remote (le_at 4 s next))
  unfolding front_bytes
  fronted h remote next w r =
      let f = le 1 (flag_of h.count remote) in
      let e1 : at + 1 ≡ at + length f = ap (λ (k : ℕ). at + k) (sym (length-le 1 (flag_of h.count remote))) in
      let back : Lies s (at + 1) (hist_bytes h ++ le 4 (le_at 4 s next)) =
      lies_append s (at + 1) (hist_bytes h) (le 4 (le_at 4 s next)) w.hist (subst (λ (k : ℕ). Lies s k (le 4 (le_at 4 s next))) w.behind (le_lies s next 4 r hb)) in
      lies_append s at f (hist_bytes h ++ le 4 (le_at 4 s next)) w.flag (subst (λ (k : ℕ). Lies s k (hist_bytes h ++ le 4 (le_at 4 s next))) e1 back)

  module _ (h : HistRef) (p n next : ℕ) where
    no_inline : None ≡ Some (Val.Inline h p n next) → ⊥
    no_inline e = let z : ◌≡◌ {A = ℕ} 0 1 = cc in omega arith

    not_remote : (h' : HistRef) (a : Addr) (n' next' : ℕ) → Some (Val.Remote h' a n' next') ≡ Some (Val.Inline h p n next) → ⊥
    not_remote h' a n' next' e = let z : ◌≡◌ {A = ℕ} 0 1 = cc in omega arith

    same : (h' : HistRef) (p' n' next' : ℕ) → Some (Val.Inline h' p' n' next') ≡ Some (Val.Inline h p n next) → (h' ≡ h) × (p' ≡ p) × (n' ≡ n) × (next' ≡ next)
    same h' p' n' next' e = (cc, cc, cc, cc)

    sized : (h' : HistRef) (remote : Bool) (q : ℕ) → FrontSays s at head h' remote q → val_of s (Some (front_places h' remote q)) ≡ Some (Val.Inline h p n next) → InlineSays h p n next
    sized h' true q w e =
        let a = ask (leb (q + 4) (length s)) _ None (Some (Val.Inline h p n next)) no_inline e in
        let b = ask (leb (le_at 4 s q) max_value) _ None (Some (Val.Inline h p n next)) no_inline a.1 in
        let c = ask (leb (q + 12) (length s)) (Some (Val.Remote h' (addr_of (le_at 8 s (q + 4))) (le_at 4 s q) (q + 12))) None (Some (Val.Inline h p n next)) no_inline b.1 in
        absurd (not_remote h' (addr_of (le_at 8 s (q + 4))) (le_at 4 s q) (q + 12) c.1)
    sized h' false q w e =
        let a = ask (leb (q + 4) (length s)) _ None (Some (Val.Inline h p n next)) no_inline e in
        let b = ask (leb (le_at 4 s q) max_value) _ None (Some (Val.Inline h p n next)) no_inline a.1 in
        let c = ask (leb (q + 4 + le_at 4 s q) (length s)) (Some (Val.Inline h' (q + 4) (le_at 4 s q) (q + 4 + le_at 4 s q))) None (Some (Val.Inline h p n next)) no_inline b.1 in
        let f = same h' (q + 4) (le_at 4 s q) (q + 4 + le_at 4 s q) c.1 in
        let r : q + 4 + le_at 4 s q ≤ length s = leb-true (q + 4 + le_at 4 s q) (length s) c.0 in
        built h' q f.0 f.1 f.2 f.3 w r (leb-true (le_at 4 s q) max_value b.0)
      where
        built : (h' : HistRef) (q : ℕ) → h' ≡ h → q + 4 ≡ p → le_at 4 s q ≡ n → q + 4 + le_at 4 s q ≡ next → FrontSays s at head h' false q → q + 4 + le_at 4 s q ≤ length s → le_at 4 s q ≤ max_value → InlineSays h p n next
        built h' q eh ep en ex w r m =
            let w' : FrontSays s at head h false q = subst (λ (x : HistRef). FrontSays s at head x false q) eh w in
            let place : p ≡ at + front_size h.count = omega (arith, w'.behind, ep, front_parts h) in
            record {
              lies = value (subst (λ (k : ℕ). Lies s at (front_bytes h false k)) (en ∙ sym (length_part s p n (omega (arith, ep, en)))) (fronted h false q w' (omega arith))) place (omega (arith, ep, en));
              place = place;
              behind = omega (arith, ep, en, ex);
              ends = omega (arith, ex);
              small = omega (arith, en);
              allowed = w'.allowed;
            }
          where
            value : Lies s at (front_bytes h false (length (part s p n))) → p ≡ at + front_size h.count → p + n ≤ length s → Lies s at (inline_bytes h (part s p n))
            value f e r =
                joined h (part s p n) f (subst (λ (k : ℕ). Lies s k (part s p n)) (e ∙ ap (λ (k : ℕ). at + k) (sym (length_front h false (length (part s p n))))) (part_lies s p n r))

    pub inline_read : val_at s at head ≡ Some (Val.Inline h p n next) → InlineSays h p n next
    unfolding val_at
    inline_read e = go (front_at s at head) refl e
      where
        go : (f : Option Front) → front_at s at head ≡ f → val_of s f ≡ Some (Val.Inline h p n next) → InlineSays h p n next
        go None q e = absurd (no_inline e)
        go (Some f) q e = sized f.hist f.remote f.next (front_read s at head f.hist f.remote f.next hb q) e

  module _ (h : HistRef) (a n next : ℕ) where
    no_remote : None ≡ Some (Val.Remote h (addr_of a) n next) → ⊥
    no_remote e = let z : ◌≡◌ {A = ℕ} 0 1 = cc in omega arith

    not_inline : (h' : HistRef) (p' n' next' : ℕ) → Some (Val.Inline h' p' n' next') ≡ Some (Val.Remote h (addr_of a) n next) → ⊥
    not_inline h' p' n' next' e = let z : ◌≡◌ {A = ℕ} 0 1 = cc in omega arith

    same-remote : (h' : HistRef) (a' n' next' : ℕ) → Some (Val.Remote h' (addr_of a') n' next') ≡ Some (Val.Remote h (addr_of a) n next) → (h' ≡ h) × (a' ≡ a) × (n' ≡ n) × (next' ≡ next)
    same-remote h' a' n' next' e =
        let d : addr_of a' ≡ addr_of a = cc in
        (cc, ap (λ (x : Addr). x.0) d, cc, cc)

    sized-remote : (h' : HistRef) (remote : Bool) (q : ℕ) → FrontSays s at head h' remote q → val_of s (Some (front_places h' remote q)) ≡ Some (Val.Remote h (addr_of a) n next) → RemoteSays h a n next
    sized-remote h' false q w e =
        let x = ask (leb (q + 4) (length s)) _ None (Some (Val.Remote h (addr_of a) n next)) no_remote e in
        let y = ask (leb (le_at 4 s q) max_value) _ None (Some (Val.Remote h (addr_of a) n next)) no_remote x.1 in
        let z = ask (leb (q + 4 + le_at 4 s q) (length s)) (Some (Val.Inline h' (q + 4) (le_at 4 s q) (q + 4 + le_at 4 s q))) None (Some (Val.Remote h (addr_of a) n next)) no_remote y.1 in
        absurd (not_inline h' (q + 4) (le_at 4 s q) (q + 4 + le_at 4 s q) z.1)
    sized-remote h' true q w e =
        let x = ask (leb (q + 4) (length s)) _ None (Some (Val.Remote h (addr_of a) n next)) no_remote e in
        let y = ask (leb (le_at 4 s q) max_value) _ None (Some (Val.Remote h (addr_of a) n next)) no_remote x.1 in
        let z = ask (leb (q + 12) (length s)) (Some (Val.Remote h' (addr_of (le_at 8 s (q + 4))) (le_at 4 s q) (q + 12))) None (Some (Val.Remote h (addr_of a) n next)) no_remote y.1 in
        let f = same-remote h' (le_at 8 s (q + 4)) (le_at 4 s q) (q + 12) z.1 in
        built h' q f.0 f.1 f.2 f.3 w (leb-true (q + 12) (length s) z.0) (leb-true (le_at 4 s q) max_value y.0)
      where
        built : (h' : HistRef) (q : ℕ) → h' ≡ h → le_at 8 s (q + 4) ≡ a → le_at 4 s q ≡ n → q + 12 ≡ next → FrontSays s at head h' true q → q + 12 ≤ length s → le_at 4 s q ≤ max_value → RemoteSays h a n next
        built h' q eh ea en ex w r m =
            let w' : FrontSays s at head h true q = subst (λ (x : HistRef). FrontSays s at head x true q) eh w in
            let f : Lies s at (front_bytes h true n) = subst (λ (k : ℕ). Lies s at (front_bytes h true k)) en (fronted h true q w' (omega arith)) in
            let g : Lies s (q + 4) (le 8 a) = subst (λ (k : ℕ). Lies s (q + 4) (le 8 k)) ea (le_lies s (q + 4) 8 (omega arith) hb) in
            let e : q + 4 ≡ at + length (front_bytes h true n) = omega (arith, w'.behind, front_parts h, length_front h true n) in
            record {
              lies = joined_remote h n a f (subst (λ (k : ℕ). Lies s k (le 8 a)) e g);
              behind = omega (arith, w'.behind, front_parts h, ex);
              ends = omega (arith, ex);
              small = omega (arith, en);
              allowed = w'.allowed;
            }

    pub remote-read : val_at s at head ≡ Some (Val.Remote h (addr_of a) n next) → RemoteSays h a n next
    unfolding val_at
    remote-read e = go (front_at s at head) refl e
      where
        go : (f : Option Front) → front_at s at head ≡ f → val_of s f ≡ Some (Val.Remote h (addr_of a) n next) → RemoteSays h a n next
        go None q e = absurd (no_remote e)
        go (Some f) q e = sized-remote f.hist f.remote f.next (front_read s at head f.hist f.remote f.next hb q) e
