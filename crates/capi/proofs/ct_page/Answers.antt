-- `capi::ct_page` meets its contract. Assumes nothing.
use Rattle.frames.specs.declared.Body.{Body}
use Rattle.std.proofs.Common.{Option, Some}
use mathlib.Core.Path.{◌≡◌, sym, ap, ◌∙◌}
use Rattle.frames.specs.Layout.{addr, open_at}
use Rattle.pages.specs.Boundaries.{bounds_at}
use Rattle.pages.specs.Refused.{bounds_number}
use Rattle.c_words.specs.Words.{written}
use Rattle.c_answers.specs.Answers.{bounds_words, page_words}
use Rattle.c_words.proofs.Laws.{told}
use Rattle.capi.proofs.Told.{page_bad}
use Rattle.capi.proofs.ct_page.Goals as goal

pub returns-in_default : goal.returns-in_default
returns-in_default c = let all = page_bad c.args.arena.now (addr c.args.at) c.args.out.now (sym c.open_at.ensures ∙ c.in_default.is) c.no.ensures in record {
  value = all.0;
  out_after = all.1;
}

pub returns : goal.returns
returns c = let e : open_at c.args.arena.now (addr c.args.at) ≡ Some c.in-Some.b = sym c.open_at.ensures ∙ c.in-Some.is in
    let t = told bounds_number (bounds_words _ _) c.args.out.now c.bounds_at-x.ensures (c.tell_page.ensures.value, c.tell_page.ensures.out_after) in
    record {
      value = t.0;
      out_after = t.1 ∙ ap (λ (z : Option Body). written (page_words z (bounds_at c.args.arena.now (addr c.args.at))) c.args.out.now) (sym e);
    }
