-- The old versions of a build in order: from the place of each, the one reader of history gives it and all behind it, across the links.
-- Assumes nothing.
use Prim.Native.Nat.{ℕ, zero, suc, ◌+◌, ◌-◌, ◌%◌, ◌^◌, ◌≤◌, ◌<◌}
use mathlib.Core.Path.{◌≡◌, refl, ◌∙◌, subst}
use mathlib.Core.Bool.{true, ◌||◌}
use mathlib.Core.List.{List, [], ◌∷◌, ◌++◌}
use native.Mathlib.Omega.{arith}
use borrow.Author.Tests.{lt-ltb, eq-eqb, ne_eqb}
use lib.ListN.{length, take, drop, take-append-drop}
use lib.Seq.{length-take-le}
use lib.Dec.{ltb, eqb}
use Rattle.spans.specs.Span.{Lies}
use Rattle.spans.proofs.Lying.{lies_front, lies_back}
use Rattle.frames.specs.declared.Body.{Body}
use Rattle.frames.specs.Layout.{addr, body_of}
use Rattle.records.specs.declared.Rec.{Rec}
use Rattle.records.specs.Records.{rec_at}
use Rattle.build_sources.specs.Source.{Entry}
use Rattle.build_sources.specs.Marks.{Each}
use Rattle.pages.specs.Sound.{history_at, hist_ok, old_in, old_at, entered, old_version}
use Rattle.build_image.specs.declared.Call.{Call}
use Rattle.build_image.specs.Image.{hist_size, hist_page, page_end, link_to, history, history_end, PageSlot, places_in, places}
use Rattle.build_image.proofs.Lengths.{length-page}
use Rattle.law_history.specs.Fit.{Fits, CallFits, Address}
use Rattle.law_history.specs.Rows.{Rows}
use Rattle.law_history.proofs.Remotes.{remotes-even}
use Rattle.law_history.proofs.Page.{SaysOld}
use Rattle.law_history.proofs.History.{PageFits, hist_body, hist_at_lem, hist_rows, hist_whole}
use Rattle.std.proofs.Common.{Some}

-- ---- reading from a place on gives these old versions

unfoldable pub Olds : List ℕ → ℕ → ℕ → List Entry → Type 0
Olds s a i [] = Unit {0}
Olds s a i (e ∷ es) = (p : ℕ) × (q : ℕ) × (r : Rec) × (old_at s (addr a) i ≡ Some (old_version (addr p) q r)) × (hist_ok s (addr p) ≡ true) × SaysOld s r e × Olds s p (q + 1) es

-- a place is a slot of a history page, its numbers have their widths, and reading from it on gives these
pub record Placed (s : List ℕ) (p : PageSlot) (es : List Entry) : Type 0 where
  pub word : p.page < 256 ^ 8
  pub half : p.slot < 256 ^ 2
  pub entered : entered s (addr p.page) p.slot ≡ true
  pub olds : Olds s p.page p.slot es

-- one place to each old version, and reading from it on gives that one and all behind it
unfoldable pub Told : List ℕ → List PageSlot → List Entry → Type 0
Told s [] [] = Unit {0}
Told s [] (e ∷ es) = ⊥
Told s (p ∷ ps) [] = ⊥
Told s (p ∷ ps) (e ∷ es) = Placed s p (e ∷ es) × Told s ps es

-- ---- in one page

module _ (s : List ℕ) (a : ℕ) (b : Body) (at : history_at s (addr a) ≡ Some b) (whole : hist_ok s (addr a) ≡ true) where
  in_page : (i : ℕ) (r : Rec) → i < b.elems → rec_at s b i ≡ Some r → old_at s (addr a) i ≡ Some (old_version (addr a) i r)
  unfolding old_at old_in
  in_page i r l e = rw (at, ne_eqb i b.elems (λ q. omega arith), e) refl

  pub olds-page : (i want : ℕ) (es rest : List Entry) → i + length es ≡ b.elems → Rows (SaysOld s) s b i want es → Olds s a b.elems rest → Olds s a i (es ++ rest)
  unfolding Rows Olds
  olds-page i want [] rest n h t = let z : b.elems ≡ i = omega arith in rw z at t
  olds-page i want (e ∷ es) rest n h t = (a, i, h.0, in_page i h.0 (omega arith) h.1, whole, h.3, olds-page (i + 1) h.0.next es rest (omega arith) h.4 t)

  into : (i : ℕ) → i < b.elems → entered s (addr a) i ≡ true
  unfolding entered
  into i l = rw (at, lt-ltb i b.elems l) refl

  pub told-page : a < 256 ^ 8 → b.elems < 256 ^ 2 → (i want : ℕ) (es rest : List Entry) (ps : List PageSlot) → i + length es ≡ b.elems → Rows (SaysOld s) s b i want es → Olds s a b.elems rest → Told s ps rest
      → Told s (places_in a i (length es) ++ ps) (es ++ rest)
  unfolding Rows Told places_in
  told-page w k i want [] rest ps n h t u = u
  told-page w k i want (e ∷ es) rest ps n h t u = (
    record { word = w; half = omega arith; entered = into i (omega arith); olds = olds-page i want (e ∷ es) rest n h t },
    told-page w k (i + 1) h.0.next es rest ps (omega arith) h.4 t u,
  )

  -- ---- across the link: behind the last slot stands the first of the linked page
  module _ (next : ℕ) (d : Body) (link : b.link ≡ addr next) (at' : history_at s (addr next) ≡ Some d) (some : 0 < d.elems) where
    across : old_at s (addr a) b.elems ≡ old_at s (addr next) 0
    unfolding old_at
    across = rw (at, eq-eqb b.elems b.elems refl, link, at', ne_eqb 0 d.elems (λ q. omega arith)) refl

    pub olds-link : (rest : List Entry) → Olds s next 0 rest → Olds s a b.elems rest
    unfolding Olds
    olds-link [] h = tt
    olds-link (e ∷ es) h = (h.0, h.1, h.2, across ∙ h.3, h.4, h.5, h.6)

-- ---- all pages

-- each page takes at least one, its count and size have their widths, and together they take all
unfoldable pub Paged : ℕ → List ℕ → List Entry → Type 0
Paged limit [] es = es ≡ []
Paged limit (n ∷ ns) es = (1 ≤ n) × (n ≤ length es) × (n < 256 ^ 2) × (hist_size limit (take n es) < 256 ^ 4) × Paged limit ns (drop n es)

pub each_take : {A : Type 0} (P : A → Type 0) (n : ℕ) (xs : List A) → Each P xs → Each P (take n xs)
unfolding Each
each_take P zero xs h = tt
each_take P (suc n) [] h = tt
each_take P (suc n) (x ∷ xs) h = (h.0, each_take P n xs h.1)

pub each-drop : {A : Type 0} (P : A → Type 0) (n : ℕ) (xs : List A) → Each P xs → Each P (drop n xs)
unfolding Each
each-drop P zero xs h = h
each-drop P (suc n) [] h = tt
each-drop P (suc n) (x ∷ xs) h = each-drop P n xs h.1

page-above : (limit at : ℕ) (es : List Entry) → at < page_end limit at es
unfolding page_end
page-above limit at es = omega arith

pub end-above : (limit : ℕ) (ns : List ℕ) (at : ℕ) (es : List Entry) → at ≤ history_end limit at ns es
unfolding history_end
end-above limit [] at es = omega arith
end-above limit (n ∷ ns) at es = omega (arith, page-above limit at (take n es), end-above limit ns (page_end limit at (take n es)) (drop n es))

page-even : (limit at : ℕ) (es : List Entry) → at % 8 ≡ 0 → page_end limit at es % 8 ≡ 0
unfolding page_end
page-even limit at es e = omega (arith, remotes-even limit es)

pub end-even : (limit : ℕ) (ns : List ℕ) (at : ℕ) (es : List Entry) → at % 8 ≡ 0 → history_end limit at ns es % 8 ≡ 0
unfolding history_end
end-even limit [] at es e = e
end-even limit (n ∷ ns) at es e = end-even limit ns (page_end limit at (take n es)) (drop n es) (page-even limit at (take n es) e)

-- the first page, where there is one
pub record First (s : List ℕ) (at : ℕ) : Type 0 where
  pub body : Body
  pub opened : history_at s (addr at) ≡ Some body
  pub some : 0 < body.elems

unfoldable pub FirstOf : List ℕ → ℕ → List ℕ → Type 0
FirstOf s at [] = Unit {0}
FirstOf s at (n ∷ ns) = First s at

-- history that lies in the arena is read back whole
pub record Whole (s : List ℕ) (limit at : ℕ) (ns : List ℕ) (es : List Entry) : Type 0 where
  pub first : FirstOf s at ns
  pub olds : Olds s at 0 es
  pub told : Told s (places limit at ns es) es

module _ (s : List ℕ) (m : Call) (w : CallFits m) where
  upward : (limit at : ℕ) (es : List Entry) (ns : List ℕ) → (eqb (link_to (page_end limit at es) ns) 0 || ltb at (link_to (page_end limit at es) ns)) ≡ true
  upward limit at es [] = refl
  upward limit at es (n ∷ ns) =
      rw (ne_eqb (page_end limit at es) 0 (λ q. omega (arith, page-above limit at es)), lt-ltb at (page_end limit at es) (page-above limit at es)) refl

  link-word : (x : ℕ) (ns : List ℕ) → x < 256 ^ 8 → link_to x ns < 256 ^ 8
  link-word x [] h = omega arith
  link-word x (n ∷ ns) h = h

  -- behind a page's last old version stand those of the next page, if there is one
  behind : (ns : List ℕ) (limit at next : ℕ) (here rest : List Entry) → history_at s (addr at) ≡ Some (hist_body m at (link_to next ns) here) → hist_ok s (addr at) ≡ true → Paged limit ns rest → FirstOf s next ns → Olds s next 0 rest
      → Olds s at (length here) rest
  unfolding Paged FirstOf Olds body_of
  behind [] limit at next here rest o k p f h = rw p tt
  behind (n ∷ ns) limit at next here rest o k p f h =
      olds-link s at (hist_body m at next here) o k next f.body refl f.opened f.some rest h

  -- a page before the pages behind it
  joined : (ns : List ℕ) (at next : ℕ) (here rest : List Entry) → Address s at → at < 256 ^ 8 → Paged m.limit ns rest → Whole s m.limit next ns rest → PageFits m.limit at (link_to next ns) here → Each (Fits s) here
      → Lies s at (hist_page m at (link_to next ns) here) → First s at × Olds s at 0 (here ++ rest) × Told s (places_in at 0 (length here) ++ places m.limit next ns rest) (here ++ rest)
  unfolding body_of
  joined ns at next here rest ad word pg more pf each lies =
      let link = link_to next ns in
      let body = hist_body m at link here in
      let o = hist_at_lem s m at link here w ad pf each lies in
      let k = hist_whole s m at link here w ad pf each lies in
      let r = hist_rows s m at link here w ad pf each lies in
      let t : Olds s at (length here) rest = behind ns m.limit at next here rest o k pg more.first more.olds in (
        record { body = body; opened = o; some = omega (arith, pf.some) },
        olds-page s at body o k 0 body.first here rest (omega arith) r t,
        told-page s at body o k word pf.few 0 body.first here rest (places m.limit next ns rest) (omega arith) r t more.told,
      )

  pub history_back : (ns : List ℕ) (at : ℕ) (es : List Entry) → Address s at → Paged m.limit ns es → Each (Fits s) es → history_end m.limit at ns es ≤ length s → Lies s at (history m at ns es) → Whole s m.limit at ns es
  unfolding Paged history history_end places FirstOf Olds Told
  history_back [] at es ad pg f e l = rw pg (record { first = tt; olds = tt; told = tt })
  history_back (n ∷ ns) at es ad pg f e l =
      let limit = m.limit in
      let here = take n es in
      let rest = drop n es in
      let next = page_end limit at here in
      let link = link_to next ns in
      let many : length here ≡ n = length-take-le n es pg.1 in
      let below : next ≤ length s = omega (arith, end-above limit ns next rest) in
      let ad' : Address s next = record { above = omega (arith, page-above limit at here, ad.above); even = page-even limit at here ad.even; word = ad.word } in
      let q : at + length (hist_page m at link here) ≡ next = length-page m at link here in
      let lies = lies_front s at (hist_page m at link here) (history m next ns rest) l in
      let lies' : Lies s next (history m next ns rest) = rw q at (lies_back s at (hist_page m at link here) (history m next ns rest) l) in
      let more = history_back ns next rest ad' pg.4 (each-drop (Fits s) n es f) e lies' in
      let pf : PageFits limit at link here = record { some = omega (arith, pg.0); few = omega (arith, pg.2); size = pg.3; upward = upward limit at here ns; word = link-word next ns (omega (arith, ad.word)) } in
      let j = joined ns at next here rest ad (omega (arith, page-above limit at here, ad.word)) pg.4 more pf (each_take (Fits s) n es f) lies in
      let eq : here ++ rest ≡ es = take-append-drop n es in
      record {
        first = j.0;
        olds = subst (λ (x : List Entry). Olds s at 0 x) eq j.1;
        told = subst (λ (x : List Entry). Told s (places_in at 0 n ++ places limit next ns rest) x) eq (subst (λ (k : ℕ). Told s (places_in at 0 k ++ places limit next ns rest) (here ++ rest)) many j.2);
      }
