-- `build_page_ahead::ahead` meets its contract. Assumes nothing.
use mathlib.Core.Logic.{inr}
use Rattle.build_page_ahead.proofs.Filled.{sized-first}
use Rattle.build_page_ahead.proofs.Paging.{page_ahead}
use Rattle.build_page_ahead.proofs.ahead.Goals as goal

pub fill_run-x-requires : goal.fill_run-x-requires
fill_run-x-requires c = record {
  limit_le_max_limit = c.requires.limit_le_max_limit;
  runs = c.requires.runs;
  opens = λ q. (c.requires.holds.body, c.requires.holds.opened);
  ready = record { known = inr c.requires.holds; sized = sized-first };
}

pub returns : goal.returns
returns c = page_ahead c.args.s.now c.args.limit c.args.budget c.args.left c.args.hand.page c.args.slot c.args.rest _ _ _ c.fill_run-x.ensures.filled_by c.fill_page-y.ensures.run_value c.fill_page-z.ensures.run_value
