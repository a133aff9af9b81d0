-- P7 of document 01 through the law: its input is one that the judge lets pass, its arena holds the image, and so it says its input.
-- Assumes nothing.
use Prim.Native.Nat.{ℕ, ◌+◌}
use mathlib.Core.Path.{◌≡◌, refl, sym, ap, ◌∙◌}
use mathlib.Core.List.{List, [], ◌∷◌, append-nil}
use native.Mathlib.Omega.{arith}
use Rattle.spans.specs.Span.{Lies}
use Rattle.spans.proofs.Lying.{drop_lies}
use Rattle.order.specs.Order.{cmp_bytes, starts_with}
use Rattle.order.specs.Bounds.{below_hi, all_in_bounds, bounded}
use Rattle.order.specs.Version.{newer_than}
use Rattle.frames.specs.Layout.{addr}
use Rattle.frames.specs.Cases.{p7}
use Rattle.pages.specs.Meaning.{says, meaning}
use Rattle.build_sources.specs.Source.{Entry}
use Rattle.build_sources.specs.Marks.{Keeps, Each, MarkedFrom, Marked}
use Rattle.build_sources.specs.Judged.{above, rising_from, rising, prefixed}
use Rattle.build_image.specs.Image.{leaf_size, leaf_room, leaf_image}
use Rattle.build_image.proofs.Cases.{call, open_ended, xy, z, p7_image}
use Rattle.law_history.specs.Fit.{Fits}
use Rattle.law_leaf.specs.Grouped.{leaf_page, LeafFit}
use Rattle.law_leaf.proofs.Built.{leaf_says}

abbrev es : List Entry
es = xy ∷ z ∷ []

xy-fits : Fits p7 xy
unfolding Keeps
xy-fits =
    record {
      short = record { key = omega arith; val = omega arith };
      wide = record { txid = omega arith; cmd = omega arith; kept = omega arith; page = omega arith };
      keeps = λ k. absurd (k refl);
    }

z_fits : Fits p7 z
unfolding Keeps
z_fits =
    record {
      short = record { key = omega arith; val = omega arith };
      wide = record { txid = omega arith; cmd = omega arith; kept = omega arith; page = omega arith };
      keeps = λ k. absurd (k refl);
    }

pub p7_fit : LeafFit p7 (call 256) open_ended 8 es
unfolding p7 Each Marked MarkedFrom rising rising_from above cmp_bytes newer_than prefixed starts_with below_hi all_in_bounds bounded
p7_fit =
    record {
      address = record { above = omega arith; even = refl; word = omega arith };
      call = record { limit = omega arith; budget = omega arith; numbers = record { group = omega arith; txid = omega arith; lsn = omega arith } };
      bounds = record { lo = omega arith; hi = omega arith; prefix = omega arith; sibling = omega arith };
      each = (xy-fits, (z_fits, tt));
      marks = (refl, (refl, tt));
      rises = refl;
      begins = refl;
      encloses = refl;
      few = omega arith;
      small = let e : leaf_size (call 256) open_ended es + leaf_room (call 256) es ≡ 101 = p7_image.3 in omega arith;
    }

pub p7_lies : Lies p7 8 (leaf_image (call 256) open_ended 8 es)
p7_lies = drop_lies p7 8 (leaf_image (call 256) open_ended 8 es) [] (sym (append-nil (leaf_image (call 256) open_ended 8 es) ∙ p7_image.0))

pub p7_says : meaning p7 (addr 104) ≡ says (leaf_page open_ended es)
p7_says = ap (λ (a : ℕ). meaning p7 (addr a)) (sym p7_image.1) ∙ leaf_says p7 (call 256) open_ended 8 es p7_fit p7_lies
