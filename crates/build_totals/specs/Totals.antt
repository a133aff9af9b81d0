-- What a leaf build is going to write, as numbers: the arithmetic of its judge, and what its writer is told.
-- Assumes nothing.
use Rattle.std.specs.Prelude.{ℕ, ◌+◌, List, ◌++◌, length}
use Rattle.frames.specs.Layout.{frame_len}
use Rattle.build_sources.specs.Source.{Entry, only, olds, heads}
use Rattle.build_image.specs.declared.Call.{Call}
use Rattle.build_image.specs.Sizes.{remotes_len}
use Rattle.build_image.specs.Image.{Borders, cuts_of, leaf_size, leaf_room, history_end, hist_addrs, remote_addrs}
use Rattle.build_totals.specs.declared.Totals.{Totals}

-- the leaf's own address, behind the history pages that stand from `at` on
unfoldable pub leaf_at : Call → ℕ → List Entry → ℕ
unfolding history_end
leaf_at m at es = history_end m.limit at (cuts_of m es) (olds es)

-- where its remote frames begin
unfoldable pub remote_at : Call → Borders → ℕ → List Entry → ℕ
unfolding leaf_at leaf_size leaf_room
remote_at m b at es = leaf_at m at es + frame_len (leaf_size m b es + leaf_room m es)

-- the addresses of all remotes: "history's first, then heads'"
unfoldable pub remotes_of : Call → Borders → ℕ → List Entry → List ℕ
unfolding remote_at hist_addrs remote_addrs
remotes_of m b at es = hist_addrs m.limit at (cuts_of m es) (olds es) ++ remote_addrs m.limit (remote_at m b at es) (heads es)

-- heads, old versions, history pages, remote addresses that the hints list, those of them in the history, size, hint room, the leaf's address, the new next free address
unfoldable pub totals_of : Call → Borders → ℕ → List Entry → Totals
unfolding leaf_size leaf_room leaf_at remote_at remotes_of hist_addrs remotes_len only
totals_of m b at es =
    record {
      heads = length (heads es);
      olds = length (olds es);
      pages = length (cuts_of m es);
      remotes = length (remotes_of m b at es);
      aged = length (hist_addrs m.limit at (cuts_of m es) (olds es));
      size = leaf_size m b es;
      room = leaf_room m es;
      leaf = leaf_at m at es;
      end = remote_at m b at es + remotes_len m.limit (heads es);
    }
