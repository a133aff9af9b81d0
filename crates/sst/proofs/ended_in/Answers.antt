use Rattle.sst.specs.declared.Ended.{Ended}
use Rattle.std.proofs.Common.{Some}
use mathlib.Core.Path.{◌≡◌, sym, ap, ◌∙◌}
use mathlib.Core.Bool.{true, false}
use Rattle.sst.specs.Search.{right_kind}
use Rattle.sst.proofs.Opens.{fits-long, ends_wrong, ends_empty, ends_halves, ends-elsewhere}
use Rattle.sst.proofs.ended_in.Goals as goal

pub returns-then-b-eq0 : goal.returns-then-b-eq0
returns-then-b-eq0 c = let k : right_kind c.args.b.kind c.args.w ≡ true = unfold right_kind in c.if-w-b.true in
    sym (ends_empty c.args.s.now c.args.probe.now c.args.w c.args.b k c.if-b-eq0.true)

pub fits_prefix-requires : goal.fits_prefix-requires
fits_prefix-requires c = c.requires

pub halve_page-requires : goal.halve_page-requires
halve_page-requires c = record {
  inside = c.requires;
  prefix_len_in_bounds = fits-long c.args.s.now c.args.b c.args.probe.now c.requires (sym c.fits_prefix.ensures ∙ c.if-fits_prefix.true);
}

pub returns-then-fits_prefix : goal.returns-then-fits_prefix
returns-then-fits_prefix c = let k : right_kind c.args.b.kind c.args.w ≡ true = unfold right_kind in c.if-w-b.true in
    ap (λ x0. Some (Ended.Stands x0)) c.halve_page.ensures ∙ sym (ends_halves c.args.s.now c.args.probe.now c.args.w c.args.b k c.if-b-eq0.false (sym c.fits_prefix.ensures ∙ c.if-fits_prefix.true))

pub elsewhere_in-requires : goal.elsewhere_in-requires
elsewhere_in-requires c = c.requires

pub returns-then-w-b : goal.returns-then-w-b
returns-then-w-b c = let k : right_kind c.args.b.kind c.args.w ≡ true = unfold right_kind in c.if-w-b.true in
    ap (λ x0. Some (Ended.Stands x0)) c.elsewhere_in.ensures ∙ sym (ends-elsewhere c.args.s.now c.args.probe.now c.args.w c.args.b k c.if-b-eq0.false (sym c.fits_prefix.ensures ∙ c.if-fits_prefix.false))

pub returns : goal.returns
returns c = let k : right_kind c.args.b.kind c.args.w ≡ false = unfold right_kind in c.if-w-b.false in
    sym (ends_wrong c.args.s.now c.args.probe.now c.args.w c.args.b k)
