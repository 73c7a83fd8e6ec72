-- Lists of calls of a window.
use Rattle.std.proofs.Common.{◌≡◌, ◌≤◌, ℕ, ℤ, pos, negsuc, ◌+ℤ◌, ◌-ℤ◌, List, [], ◌∷◌, arith, ap, ◌∙◌, cond}
use Rattle.std.specs.Prelude.{◌≤ℤ◌, neg_ℤ, int_lt}
use Rattle.std.proofs.lemmas.Int.{ints}
use Rattle.flow_windows.specs.Window.{max_window_size, IsWindowSize, room_of, WindowCall, Grant, Resize, Spend, change_of, MayChange, counted_change, window_after, window_after_all, MayChangeAll, changes_of, sum_of_changes, AllCount}
use Rattle.flow_windows.specs.Window.{IsInReach, initial_after, MayFollow, MayFollowAll}

nothing_more : (size : ℤ) → size ≡ size +ℤ pos 0
nothing_more size = omega (arith, ints)

regrouped : (a b c : ℤ) → (a +ℤ b) +ℤ c ≡ a +ℤ (b +ℤ c)
regrouped a b c = omega (arith, ints)

-- the window is what it was and the sum of what the calls count for
pub window_after_all_sum : (start : ℤ) (calls : List WindowCall) → window_after_all start calls ≡ start +ℤ changes_of start calls
window_after_all_sum start [] = nothing_more start
window_after_all_sum start (call ∷ calls) = window_after_all_sum (window_after start call) calls ∙ regrouped start (counted_change start call) (changes_of (window_after start call) calls)

-- what is added when the sum is within the largest window
counted_whole : (size change : ℤ) → (size +ℤ change) ≤ℤ pos max_window_size → cond (int_lt (pos max_window_size) (size +ℤ change)) (pos 0) change ≡ change
counted_whole size change h = grind (arith, ints)

-- where no call is refused, the window is what it was and the sum of all changes
pub window_after_all_whole : (start : ℤ) (calls : List WindowCall) → AllCount start calls → window_after_all start calls ≡ start +ℤ sum_of_changes calls
window_after_all_whole start [] h = nothing_more start
window_after_all_whole start (call ∷ calls) h =
    window_after_all_whole (window_after start call) calls h.1 ∙ ap (λ change. (start +ℤ change) +ℤ sum_of_changes calls) (counted_whole start (change_of call) h.0) ∙ regrouped start (change_of call) (sum_of_changes calls)

moved_range : (size change : ℤ) → IsWindowSize size → negsuc 2147483647 ≤ℤ (size +ℤ change) → IsWindowSize (size +ℤ cond (int_lt (pos max_window_size) (size +ℤ change)) (pos 0) change)
moved_range size change s h = record { low = grind (arith, ints); high = grind (arith, ints) }

spent_range : (size : ℤ) (n : ℕ) → IsWindowSize size → n ≤ room_of size → negsuc 2147483647 ≤ℤ (size +ℤ neg_ℤ (pos n))
spent_range (pos m) n s h = omega (arith, ints)
spent_range (negsuc m) n s h = omega (arith, ints, s.low)

-- one call leaves the window in range
window_after-range : (size : ℤ) (call : WindowCall) → IsWindowSize size → MayChange size call → IsWindowSize (window_after size call)
window_after-range size (Grant n) s h = moved_range size (pos n) s (omega (arith, ints, s.low))
window_after-range size (Resize old new) s h = moved_range size (pos new -ℤ pos old) s h.2
window_after-range size (Spend n) s h = moved_range size (neg_ℤ (pos n)) s (spent_range size n s h)

-- and so do all of them
pub window_after_all-range : (start : ℤ) (calls : List WindowCall) → IsWindowSize start → MayChangeAll start calls → IsWindowSize (window_after_all start calls)
window_after_all-range start [] s h = s
window_after_all-range start (call ∷ calls) s h = window_after_all-range (window_after start call) calls (window_after-range start call s h.0) h.1

-- a call that may follow has what it needs
may_change : (initial : ℕ) (size : ℤ) (call : WindowCall) → initial ≤ max_window_size → IsInReach initial size → MayFollow initial size call → MayChange size call
may_change initial size (Grant n) i s h = tt
may_change initial size (Resize old new) i s h = (omega (arith, h.0), h.1, omega (arith, ints, h.0))
may_change initial size (Spend n) i s h = h

-- no call moves the window further below the initial size than that may be moved
moved_reach : (initial : ℕ) (size change : ℤ) → IsInReach initial size → pos initial ≤ℤ ((size +ℤ change) +ℤ pos max_window_size)
    → pos initial ≤ℤ ((size +ℤ cond (int_lt (pos max_window_size) (size +ℤ change)) (pos 0) change) +ℤ pos max_window_size)
moved_reach initial size change s h = grind (arith, ints)

-- what is sent is not more than there was room
spent_reach : (initial : ℕ) (size : ℤ) (n : ℕ) → initial ≤ max_window_size → IsInReach initial size → n ≤ room_of size → pos initial ≤ℤ ((size +ℤ neg_ℤ (pos n)) +ℤ pos max_window_size)
spent_reach initial (pos m) n i s h = omega (arith, ints)
spent_reach initial (negsuc m) n i s h = let z : n ≡ 0 = omega arith in omega (arith, ints)

-- a window that is moved with the initial size stays in its reach
resized_reach : (initial new : ℕ) (size change : ℤ) → initial ≤ max_window_size → new ≤ max_window_size → IsInReach initial size → change ≡ pos new -ℤ pos initial
    → pos new ≤ℤ ((size +ℤ cond (int_lt (pos max_window_size) (size +ℤ change)) (pos 0) change) +ℤ pos max_window_size)
resized_reach initial new size change i j s h = grind (arith, ints)

-- each call leaves the window in reach
follow_reach : (initial : ℕ) (size : ℤ) (call : WindowCall) → initial ≤ max_window_size → IsInReach initial size → MayFollow initial size call → IsInReach (initial_after initial call) (window_after size call)
follow_reach initial size (Grant n) i s h = moved_reach initial size (pos n) s (omega (arith, ints))
follow_reach initial size (Resize old new) i s h = resized_reach initial new size (pos new -ℤ pos old) i h.1 s (ap (λ (k : ℕ). pos new -ℤ pos k) h.0)
follow_reach initial size (Spend n) i s h = moved_reach initial size (neg_ℤ (pos n)) s (spent_reach initial size n i s h)

-- the initial size stays one that a window may have
initial_small : (initial : ℕ) (size : ℤ) (call : WindowCall) → initial ≤ max_window_size → MayFollow initial size call → initial_after initial call ≤ max_window_size
initial_small initial size (Grant n) i h = i
initial_small initial size (Resize old new) i h = h.1
initial_small initial size (Spend n) i h = i

-- a call that may follow has what it needs, and leaves the window in reach
pub call_stays : (initial : ℕ) (size : ℤ) (call : WindowCall) → initial ≤ max_window_size → IsInReach initial size
    → MayFollow initial size call → MayChange size call × IsInReach (initial_after initial call) (window_after size call)
call_stays initial size call i s h = (may_change initial size call i s h, follow_reach initial size call i s h)

-- calls that may follow one another have what they need
pub may_change_all : (initial : ℕ) (size : ℤ) (calls : List WindowCall) → initial ≤ max_window_size → IsInReach initial size → MayFollowAll initial size calls → MayChangeAll size calls
may_change_all initial size [] i s h = tt
may_change_all initial size (call ∷ calls) i s h =
    (may_change initial size call i s h.0, may_change_all (initial_after initial call) (window_after size call) calls (initial_small initial size call i h.0) (follow_reach initial size call i s h.0) h.1)
