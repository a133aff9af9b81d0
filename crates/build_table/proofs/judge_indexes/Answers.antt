-- `build_table::judge_indexes` meets its contract. Assumes nothing.
use Rattle.build_table.proofs.Indexes.{pages-many, pages-weighed}
use Rattle.build_table.proofs.judge_indexes.Goals as goal

pub returns-then-n-gt-MAX_ENTRIES : goal.returns-then-n-gt-MAX_ENTRIES
returns-then-n-gt-MAX_ENTRIES c = pages-many _ _ _ _ _ _ c.requires.judged.0 c.requires.judged.1 c.requires.from_le_end.0 c.requires.from_le_end.1 c.requires.from_le_end.2 _ _ _ _ c.requires.held c.requires.count_value c.requires.count_value_2 c.if-n-gt-MAX_ENTRIES.true

pub returns : goal.returns
returns c = pages-weighed _ _ _ _ _ _ c.requires.judged.0 c.requires.judged.1 c.requires.from_le_end.0 c.requires.from_le_end.1 c.requires.from_le_end.2 _ _ _ _ c.requires.held c.requires.count_value c.requires.count_value_2 c.if-n-gt-MAX_ENTRIES.false _ _ c.sum_page-one.ensures.value c.sum_page-two.ensures.value _ c.weigh_index.ensures
