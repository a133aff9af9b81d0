-- The pen over all entries: what is left of the history page under way and of the pages behind it, with their hints; and what a run of old
-- versions does.
-- Assumes nothing.
use Rattle.std.specs.Prelude.{ℕ, ◌+◌, ◌-◌, ◌*◌, ◌≤◌, ◌<◌, ◌≡◌, List, [], ◌∷◌, ◌++◌, true, cond, eqb, length, take, drop, replicate}
use Rattle.spans.specs.Span.{put}
use Rattle.numbers.specs.Number.{le}
use Rattle.frames.specs.Layout.{box_len, slots_at, frame_len}
use Rattle.frames.specs.Limits.{max_budget, max_entries}
use Rattle.values.specs.declared.HistRef.{HistRef}
use Rattle.values.specs.Vals.{hist_of}
use Rattle.build_paging.specs.Cuts.{total, cuts}
use Rattle.build_sources.specs.Source.{Entry, olds, heads}
use Rattle.build_image.specs.declared.Call.{Call}
use Rattle.build_image.specs.Sizes.{costs_of, old_run}
use Rattle.build_image.specs.Image.{PageSlot, hist_head, ref_of, remote_addrs, remote_frames, starts, hist_addrs, les, head_slots, head_recs}
use Rattle.build_history.specs.declared.PageAhead.{PageAhead}
use Rattle.build_history.specs.Runs.{history_at}
use Rattle.build_heads.specs.declared.Loc.{Loc}
use Rattle.build_heads.specs.Steps.{Long}
use Rattle.build_heads.specs.Located.{places_at, Settled}
use Rattle.build_pen.specs.declared.Nib.{Nib}
use Rattle.build_pen.specs.declared.Pen.{Pen}
use Rattle.build_pen.specs.declared.Ran.{Ran}
use Rattle.build_pen.specs.Stretches.{Stretch, stretch, draws, Rising, Drawing}
use Rattle.build_pen.specs.Places.{list_from, Well}
use Rattle.build_pen.specs.Nibs.{olds_left}

-- what a function that stores at some stretches leaves, other stretches (mid and tail) between and behind them: finishing from there is finishing
-- from the entry, wherever the stretches end; they lie above `low`, and what is below it stays
abbrev pub Drew : ℕ → List ℕ → (List Stretch → List Stretch → List Stretch) → List ℕ → (List Stretch → List Stretch → List Stretch) → Type 0
Drew low a f a' f' = (mid tail : List Stretch) (end : ℕ) → end ≤ length a → Rising low (f mid tail) end → Drawing a low (draws a (f mid tail)) a' (f' mid tail) end

-- the history pages' addresses from one on, and their remotes'
abbrev pub starts_at : Call → ℕ → List Entry → List ℕ
starts_at m at os = starts m.limit at (cuts m.budget (costs_of m.limit os)) os

abbrev pub addrs_at : Call → ℕ → List Entry → List ℕ
addrs_at m at os = hist_addrs m.limit at (cuts m.budget (costs_of m.limit os)) os

-- what is left of these old versions' hints: pages, then remotes
abbrev pub hints_left : Call → Pen → List Entry → List Stretch → List Stretch
hints_left m q os tail =
    stretch q.pages (les 8 (starts_at m q.loc.next (drop q.loc.left os)))
    ∷ stretch q.hint (les 8 (remote_addrs m.limit q.nib.remote (take q.loc.left os) ++ addrs_at m q.loc.next (drop q.loc.left os)))
    ∷ tail

-- what is left of these old versions
abbrev pub pens_left : Call → Pen → List Entry → List Stretch → List Stretch → List Stretch
pens_left m q os mid tail =
    olds_left m q.nib (q.loc.page + box_len) (take q.loc.left os) (stretch q.loc.next (history_at m q.loc.next (drop q.loc.left os)) ∷ (mid ++ hints_left m q os tail))

-- the page under way has its offsets' base below, and small offsets
pub record Steady (m : Call) (q : Pen) (os : List Entry) : Type 0 where
  pub above : 0 < q.loc.left → q.loc.page + box_len ≤ q.nib.rec
  pub small : 0 < q.loc.left → q.nib.rec - (q.loc.page + box_len) + total (costs_of m.limit (take q.loc.left os)) ≤ 4294967295
  pub slots : q.loc.slot + q.loc.left ≤ max_entries

-- a look ahead's page has room, where the next one stands
pub record Opens (q : Pen) (r : PageAhead) (long : ℕ) : Type 0 where
  pub fits : q.loc.next + frame_len r.size + r.remote ≤ long
  pub hint : q.pages + 8 ≤ long
  pub many : r.count ≤ max_entries
  pub small : r.size ≤ max_budget
  pub least : slots_at + 4 * r.count ≤ box_len + r.size

-- the arena with that page's headers, rounding and hint; the pen at its first old version
abbrev pub page_opened : Call → Pen → PageAhead → List ℕ → List ℕ
page_opened m q r a =
    put (put (put a q.loc.next (hist_head m (cond r.more (q.loc.next + frame_len r.size + r.remote) 0) r.count r.size))
    (q.loc.next + (box_len + r.size)) (replicate (q.loc.next + frame_len r.size - (q.loc.next + (box_len + r.size))) 0))
    q.pages (le 8 q.loc.next)

abbrev pub pen_opened : Pen → PageAhead → Pen
pen_opened q r =
    record {
      loc = record { page = q.loc.next; slot = 0; left = r.count; next = q.loc.next + frame_len r.size + r.remote };
      nib = record { slot = q.loc.next + slots_at; rec = q.loc.next + slots_at + 4 * r.count; remote = q.loc.next + frame_len r.size };
      pages = q.pages + 8;
      hint = q.hint;
    }

-- a page is at hand where one is left
pub record Turned (low : ℕ) (m : Call) (os : List Entry) (a : List ℕ) (q : Pen) (a' : List ℕ) (r : Pen) : Type 0 where
  pub drew : Drew low a (pens_left m q os) a' (pens_left m r os)
  pub settled : Settled m.limit m.budget os true q.loc r.loc
  pub steady : Steady m r os

-- the reference of a head of whose old versions run have been passed, the first at page and slot; k are still to come, at the places ps
abbrev pub ref_from : ℕ → ℕ → ℕ → List PageSlot → ℕ → HistRef
ref_from run page slot ps k = cond (eqb run 0) (ref_of ps k) (hist_of page slot (run + k))

-- old versions passed: to heads they are as good as gone
pub record Passed (limit budget : ℕ) (loc₀ : Loc) (es₀ : List Entry) (loc : Loc) (es : List Entry) (run page slot : ℕ) : Type 0 where
  pub slots : (p off : ℕ) → head_slots limit p off es₀ ≡ head_slots limit p off es
  pub recs : (p remote : ℕ) → head_recs limit p remote (places_at limit budget loc₀ (olds es₀)) es₀ ≡ head_recs limit p remote (places_at limit budget loc (olds es)) es
  pub firsts : heads es₀ ≡ heads es
  pub count : old_run es₀ ≡ run + old_run es
  pub ref : ref_of (places_at limit budget loc₀ (olds es₀)) (old_run es₀) ≡ ref_from run page slot (places_at limit budget loc (olds es)) (old_run es)
  pub keys : (p : ℕ) → Long p es₀ → Long p es
  pub few : length es + run ≡ length es₀

-- a run of old versions written, all that stand in front: a head comes next, or the end
pub record RanPast (low : ℕ) (m : Call) (es : List Entry) (a : List ℕ) (q : Pen) (a' : List ℕ) (es' : List Entry) (q' : Pen) (run page slot : ℕ) : Type 0 where
  pub drew : Drew low a (pens_left m q (olds es)) a' (pens_left m q' (olds es'))
  pub passed : Passed m.limit m.budget q.loc es q'.loc es' run page slot
  pub steady : Steady m q' (olds es')
  pub ended : old_run es' ≡ 0
  pub place : slot ≤ max_entries

-- the same in a record list, which is read from a place on
pub record RanTo (m : Call) (l : List ℕ) (es : List Entry) (from : ℕ) (a : List ℕ) (q : Pen) (a' : List ℕ) (r : Ran) : Type 0 where
  pub ran : RanPast 0 m es a q a' (list_from l r.at) r.pen r.run r.page r.slot
  pub well : Well l r.at
  pub onward : from ≤ r.at

-- what is left of all entries: old versions, and slots, records, hints and remote frames of heads
abbrev pub heads_mid : Call → Nib → ℕ → ℕ → List PageSlot → List Entry → List Stretch
heads_mid m n base p ps es = stretch n.slot (head_slots m.limit p (n.rec - base) es) ∷ stretch n.rec (head_recs m.limit p n.remote ps es) ∷ []

abbrev pub heads_tail : Call → Nib → ℕ → List Entry → List Stretch
heads_tail m n hint es = stretch hint (les 8 (remote_addrs m.limit n.remote (heads es))) ∷ stretch n.remote (remote_frames m (heads es)) ∷ []

abbrev pub all_left : Call → Pen → Nib → ℕ → ℕ → ℕ → List Entry → List Stretch
all_left m q n hint base p es = pens_left m q (olds es) (heads_mid m n base p (places_at m.limit m.budget q.loc (olds es)) es) (heads_tail m n hint es)

pub record AllLaid (low long : ℕ) (q : Pen) (n : Nib) (hint base : ℕ) (m : Call) (p : ℕ) (es : List Entry) : Type 0 where
  pub order : Rising low (all_left m q n hint base p es) long
  pub steady : Steady m q (olds es)
  pub above : base ≤ n.rec
  pub small : n.rec + length (head_recs m.limit p n.remote (places_at m.limit m.budget q.loc (olds es)) es) ≤ base + 4294967295
  pub keys : Long p es
  pub few : length es ≤ max_entries
