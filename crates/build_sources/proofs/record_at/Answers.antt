-- `build_sources::record_at` meets its contract. Assumes nothing.
use native.Mathlib.Omega.{arith}
use mathlib.Core.Path.{◌∙◌}
use Rattle.build_sources.specs.Lists.{cursor_at}
use Rattle.build_sources.proofs.Stepped.{same_anywhere}
use Rattle.build_sources.proofs.Lists.{record_short, record_long, record_cut, record_big, record_open, record_found}
use Rattle.build_sources.proofs.record_at.Goals as goal

pub returns-then-n-at : goal.returns-then-n-at
returns-then-n-at c = record_short c.args.s.now (cursor_at c.args.at c.args.seen c.args.pat c.args.plen c.args.bat c.args.blen) (omega arith)

pub returns-then-n-at-lt2 : goal.returns-then-n-at-lt2
returns-then-n-at-lt2 c = record_short c.args.s.now (cursor_at c.args.at c.args.seen c.args.pat c.args.plen c.args.bat c.args.blen) (omega arith)

pub returns-then-klen-gt-MAX_KEY : goal.returns-then-klen-gt-MAX_KEY
returns-then-klen-gt-MAX_KEY c = record_long c.args.s.now (cursor_at c.args.at c.args.seen c.args.pat c.args.plen c.args.bat c.args.blen) _ c.read_u16_be-klen.ensures (omega arith) c.if-klen-gt-MAX_KEY.true

pub returns-then-n-at-2 : goal.returns-then-n-at-2
returns-then-n-at-2 c = record_cut c.args.s.now (cursor_at c.args.at c.args.seen c.args.pat c.args.plen c.args.bat c.args.blen) c.read_u16_be-klen.result c.read_u16_be-klen.ensures (omega arith) c.if-klen-gt-MAX_KEY.false (omega arith)

pub returns-then-vlen-gt-MAX_VALUE : goal.returns-then-vlen-gt-MAX_VALUE
returns-then-vlen-gt-MAX_VALUE c = record_big c.args.s.now (cursor_at c.args.at c.args.seen c.args.pat c.args.plen c.args.bat c.args.blen) c.read_u16_be-klen.result c.read_u16_be-klen.ensures (omega arith) c.if-klen-gt-MAX_KEY.false _ c.read_u32_be-vlen.ensures (omega arith) c.if-vlen-gt-MAX_VALUE.true

pub returns-then-n-vat : goal.returns-then-n-vat
returns-then-n-vat c = record_open c.args.s.now (cursor_at c.args.at c.args.seen c.args.pat c.args.plen c.args.bat c.args.blen) c.read_u16_be-klen.result c.read_u16_be-klen.ensures (omega arith) c.if-klen-gt-MAX_KEY.false c.read_u32_be-vlen.result c.read_u32_be-vlen.ensures (omega arith) c.if-vlen-gt-MAX_VALUE.false (omega arith)

pub returns : goal.returns
returns c = record_found c.args.s.now (cursor_at c.args.at c.args.seen c.args.pat c.args.plen c.args.bat c.args.blen) c.read_u16_be-klen.result c.read_u16_be-klen.ensures (omega arith) c.if-klen-gt-MAX_KEY.false c.read_u32_be-vlen.result c.read_u32_be-vlen.ensures (omega arith) c.if-vlen-gt-MAX_VALUE.false (omega arith) _ _ _ _ (c.is_same-old.ensures ∙ same_anywhere c.args.s.now c.args.seen c.args.pat c.args.plen c.args.bat c.args.blen _ c.args.at) c.new-v.ensures c.read_u64_be.ensures c.read_u32_be.ensures
