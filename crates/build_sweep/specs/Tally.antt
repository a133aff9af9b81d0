-- One pass over the entries: what a leaf's size and hint room are made of, summed up entry by entry.
-- Assumes nothing.
use Rattle.std.specs.Prelude.{ℕ, ◌+◌, List, [], ◌∷◌, Bool, true, false, cond, length, ltb, eqb}
use Rattle.values.specs.Vals.{size_of}
use Rattle.build_sources.specs.Source.{Entry}
use Rattle.build_image.specs.Sizes.{remote_len, key_len}
use Rattle.build_sweep.specs.declared.Tally.{Tally}

abbrev pub nothing : Tally
nothing = record { heads = 0; olds = 0; sums = 0; counted = 0; remotes = 0; aged = 0; remote = 0; after = false }

-- with an old version; `after` says that the entry before is a head
abbrev pub with_old : ℕ → Tally → ℕ → ℕ → Tally
with_old limit t n kept =
    record {
      heads = t.heads;
      olds = t.olds + 1;
      sums = t.sums + cond t.after (size_of true limit n) 0;
      counted = t.counted + cond (ltb n limit) (cond (eqb kept 0) 0 1) 1;
      remotes = t.remotes + cond (ltb n limit) 0 1;
      aged = t.aged + cond (ltb n limit) 0 1;
      remote = t.remote;
      after = false;
    }

-- with a head
abbrev pub with_head : ℕ → ℕ → Tally → ℕ → ℕ → ℕ → Tally
with_head limit p t k n kept =
    record {
      heads = t.heads + 1;
      olds = t.olds;
      sums = t.sums + (key_len p k + size_of false limit n);
      counted = t.counted + cond (ltb n limit) (cond (eqb kept 0) 0 1) 1;
      remotes = t.remotes + cond (ltb n limit) 0 1;
      aged = t.aged;
      remote = t.remote + remote_len limit n kept;
      after = true;
    }

unfoldable pub with_one : ℕ → ℕ → Tally → Bool → ℕ → ℕ → ℕ → Tally
with_one limit p t old k n kept = cond old (with_old limit t n kept) (with_head limit p t k n kept)

unfoldable pub tally_of : ℕ → ℕ → Tally → List Entry → Tally
unfolding with_one
tally_of limit p t [] = t
tally_of limit p t (e ∷ es) = tally_of limit p (with_one limit p t e.old (length e.key) (length e.val) e.kept) es
