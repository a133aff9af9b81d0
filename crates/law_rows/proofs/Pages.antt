-- What a sound page holds: entries that say what the page says, in order, marked, short, with remotes that hold their values.
-- Assumes nothing.
use Prim.Native.Nat.{ℕ}
use mathlib.Core.Path.{◌≡◌, refl, sym, ap, subst, ◌∙◌}
use mathlib.Core.List.{List, map}
use native.Mathlib.Omega.{arith}
use borrow.Author.Tests.{eq-eqb, ne_eqb}
use Rattle.numbers.specs.Number.{Bytes}
use Rattle.frames.specs.declared.Addr.{Addr}
use Rattle.frames.specs.declared.Body.{Body}
use Rattle.frames.specs.Layout.{open_at}
use Rattle.frames.proofs.Frames.{open_inside}
use Rattle.pages.specs.Meaning.{Head, Child, leaf, index, Page, says, meaning}
use Rattle.walks.specs.Listed.{entries_of}
use Rattle.walks.proofs.Says.{is_leaf, is_index_lem}
use Rattle.build_sources.specs.Source.{Entry}
use Rattle.law_rows.specs.Rows.{leaf_entries, index_entries, page_entries}
use Rattle.law_rows.specs.Pairs.{bare, child, NoPage, NoVersion, Reads}
use Rattle.law_rows.proofs.Entries.{leaf_told, index_told}
use Rattle.law_rows.proofs.Carried.{leaf_short, leaf_carried, leaf_kind, index_short, index_carried, index_kind}
use Rattle.law_rows.proofs.Marks.{leaf_marked, index_marked}
use Rattle.std.proofs.Common.{Some}

module _ (w : List ℕ) (a : Addr) (b : Body) (o : open_at w a ≡ Some b) where
  pub leaf_page_lem : (b.kind ≡ 1 → ⊥) → page_entries w a ≡ leaf_entries w b b.elems 0
  unfolding page_entries
  leaf_page_lem k = rw (o, ne_eqb b.kind 1 k) refl

  pub index_page_lem : b.kind ≡ 1 → page_entries w a ≡ index_entries w b b.elems 0
  unfolding page_entries
  index_page_lem k = rw (o, eq-eqb b.kind 1 k) refl

module _ (w : List ℕ) (a : Addr) (p : Page) (m : meaning w a ≡ says p) where
  pub leaf_list : (hs : List Head) → p.rows ≡ leaf hs → map bare (page_entries w a) ≡ entries_of hs
  leaf_list hs e =
      let l = is_leaf w a p m hs e in
      let b = l.sound.body in
      ap (map bare) (leaf_page_lem w a b l.sound.opened (λ z. omega (arith, z, l.kind))) ∙ leaf_told w b b.elems 0 ∙ ap entries_of l.heads

  pub index_list : (cs : List Child) → p.rows ≡ index cs → map child (page_entries w a) ≡ cs
  index_list cs e =
      let l = is_index_lem w a p m cs e in
      let b = l.sound.body in
      ap (map child) (index_page_lem w a b l.sound.opened l.kind) ∙ index_told w b b.elems 0 ∙ l.children

module _ (w : List ℕ) (y : Bytes w) (a : Addr) (p : Page) (m : meaning w a ≡ says p) where
  pub leaf_reads : (hs : List Head) → p.rows ≡ leaf hs → Reads bare NoPage w (page_entries w a) (entries_of hs)
  leaf_reads hs e =
      let l = is_leaf w a p m hs e in
      let b = l.sound.body in
      let n : b.kind ≡ 1 → ⊥ = λ z. omega (arith, z, l.kind) in
      let i = (open_inside w a b l.sound.opened).0 in
      subst (λ (es : List Entry). Reads bare NoPage w es (entries_of hs)) (sym (leaf_page_lem w a b l.sound.opened n))
      (record {
        list = leaf_told w b b.elems 0 ∙ ap entries_of l.heads;
        kind = leaf_kind w y b b.elems 0;
        marks = leaf_marked w b l.sound.slots l.sound.kind b.elems 0 (omega arith);
        short = leaf_short w y b i n b.elems 0;
        carried = leaf_carried w y b i n b.elems 0;
      })

  pub index_reads : (cs : List Child) → p.rows ≡ index cs → Reads child NoVersion w (page_entries w a) cs
  index_reads cs e =
      let l = is_index_lem w a p m cs e in
      let b = l.sound.body in
      let i = (open_inside w a b l.sound.opened).0 in
      subst (λ (es : List Entry). Reads child NoVersion w es cs) (sym (index_page_lem w a b l.sound.opened l.kind))
      (record {
        list = index_told w b b.elems 0 ∙ l.children;
        kind = index_kind w y b b.elems 0;
        marks = index_marked w b l.sound.slots l.sound.kind b.elems 0 (omega arith);
        short = index_short w y b i l.kind b.elems 0;
        carried = index_carried w y b i l.kind b.elems 0;
      })
