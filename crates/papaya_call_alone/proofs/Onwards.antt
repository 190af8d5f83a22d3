-- How a call that was set aside continues, with no other caller beside it.
use Rattle.std.proofs.Common.{◌≡◌, ◌⊎◌, ⊎_elim, ℕ, ◌+◌, ◌*◌, ◌^◌, ◌<◌, ◌≤◌, ◌==◌, ◌||◌, Bool, true}
use Rattle.std.proofs.Common.{false, Some, refl, sym, ap, ◌∙◌, subst, arith, eq-eqb, eqb-true}
use Rattle.std.proofs.lemmas.Bool.{cond_both}
use Rattle.papaya_words.specs.declared.resize_mode.ResizeMode.{ResizeMode}
use Rattle.papaya_words.specs.declared.resize_mode.ResizeMode.TheVariants.{Incremental, Blocking}
use Rattle.papaya_call.specs.declared.ask.At.{At}
use Rattle.papaya_call.specs.declared.ask.At.TheVariants as words_at
use Rattle.papaya_call.specs.declared.machine.State.{State}
use Rattle.papaya_call.specs.declared.machine.State.TheVariants.{Growing}
use Rattle.papaya_call.specs.declared.need.Need.{Need}
use Rattle.papaya_call.specs.declared.need.Need.TheVariants.{Room, Pair as Pair_at}
use Rattle.papaya_call.specs.Machine.{needed}
use Rattle.papaya_call.specs.declared.copy.copying.Aim.{Aim}
use Rattle.papaya_call.specs.declared.copy.copying.Aim.TheVariants as aims
use Rattle.papaya_call.specs.declared.copy.link.Link.TheVariants as links
use Rattle.papaya_call.specs.declared.chain.machine.Machine.{Machine}
use Rattle.papaya_call.specs.declared.chain.machine.Phase.TheVariants.{Linking}
use Rattle.papaya_call.specs.ChainMachine.{aim_for, restarted, enters, goes_on, grows_as, onward}
use Rattle.papaya_call_law.specs.ChainRelies.{left_by}
use Rattle.papaya_call_law.specs.Alone.{IsRead}
use Rattle.papaya_call_alone.specs.Ahead.{IsAhead, IsCallRead}
use Rattle.papaya_call_alone.specs.Current.{IsAimRead, IsIncremental}
use Rattle.papaya_call_alone.specs.Measure.{further}
use Rattle.papaya_call_alone.specs.Rank.{rank, rank_at_root, rank_of}
use Rattle.papaya_call_alone.proofs.CallRanks.{root_leads}
use Rattle.papaya_call_alone.proofs.CopyEnds.{any_alive}

-- a call copies for the table where it continues
abbrev pub AimsAt : Aim → ℕ → Type 0
AimsAt (aims.Search t) n = t ≡ n
AimsAt (aims.Settle slot) n = slot.to ≡ n
AimsAt _ n = ⊥

-- it copies for the next table
pub aims_at : (state : State) (n : ℕ) → AimsAt (aim_for state n) n
aims_at (Growing (Room t)) n = refl
aims_at (Growing (Pair_at t x)) n = refl
aims_at state n = refl

module _ (words : At → ℕ) where
  -- without blocking the table is ahead if it is no earlier than the root
  ahead_of : (how : ResizeMode) (t : ℕ) → IsIncremental how → words words_at.Root ≤ t → IsAhead how words t
  ahead_of (Incremental chunk) t inc h = h
  ahead_of Blocking t inc h = absurd inc

  -- and no earlier than the root if it is ahead
  pub ahead_least : (how : ResizeMode) (t : ℕ) → IsAhead how words t → words words_at.Root ≤ t
  ahead_least (Incremental chunk) t h = h
  ahead_least Blocking t h = omega (arith, h)

  module _ (m : Machine) (inc : IsIncremental m.call.mode) where
    -- a call for a key in a next table
    pub enters_current : (n : ℕ) → words words_at.Root ≤ n → IsCallRead words (enters m n)
    enters_current n h = (tt, ahead_of m.call.mode n inc h)

    -- its aim is one of the mode
    pub aim_read : (aim : Aim) → IsAimRead m.call.mode words aim
    aim_read (aims.Search t) = tt
    aim_read (aims.Settle slot) = inc
    aim_read aims.Chunk = tt
    aim_read (aims.All met) = tt

    -- it copies a chunk, or its slot, or continues
    goes_current : (helped : Bool) (aim : Aim) (n : ℕ) → AimsAt aim n → words words_at.Root ≤ n
        → ((t : ℕ) → left_by m.call.state ≡ Some t → words words_at.Root ≤ t) → IsCallRead words (goes_on m helped aim n)
    goes_current false aim n is h left = ((aim_read aim, tt), λ t how e. left t e)
    goes_current true (aims.Search t) n is h left = enters_current n h
    goes_current true (aims.Settle slot) n is h left = (any_alive m.call.mode words m.call.mode slot.to inc, omega (arith, is, h))
    goes_current true aims.Chunk n is h left = absurd is
    goes_current true (aims.All met) n is h left = absurd is

    -- so it continues
    pub onward_current : (n : ℕ) → words words_at.Root ≤ n → ((t : ℕ) → left_by m.call.state ≡ Some t → words words_at.Root ≤ t) → IsCallRead words (onward m n)
    onward_current n h left = goes_current m.helped (aim_for m.call.state n) n (aims_at m.call.state n) h left

  module _ (m : Machine) where
    goes_rank : (helped : Bool) (aim : Aim) (n t : ℕ) → AimsAt aim n → t < n → n ≤ 2 ^ 32
        → rank_of (words words_at.Root) (goes_on m helped aim n) < rank 2 (further t) (2 ^ 68 + 3)
    goes_rank false (aims.Search u) n t is up most = omega arith
    goes_rank false (aims.Settle slot) n t is up most = omega arith
    goes_rank false aims.Chunk n t is up most = absurd is
    goes_rank false (aims.All met) n t is up most = absurd is
    goes_rank true (aims.Search u) n t is up most = omega (arith, up, most)
    goes_rank true (aims.Settle slot) n t is up most = omega (arith, is, up, most)
    goes_rank true aims.Chunk n t is up most = absurd is
    goes_rank true (aims.All met) n t is up most = absurd is

    -- and less is left then
    pub onward_rank : (n t : ℕ) → t < n → n ≤ 2 ^ 32 → rank_of (words words_at.Root) (onward m n) < rank 2 (further t) (2 ^ 68 + 3)
    onward_rank n t up most = goes_rank m.helped (aim_for m.call.state n) n t (aims_at m.call.state n) up most

    -- a call that starts again is at the root
    pub anew_current : IsRead words (restarted m (words words_at.Root)).call.state → IsCallRead words (restarted m (words words_at.Root))
    anew_current read = (read, (root_leads m.call.made m.call.mode words m.call.task m.call.remembered.fill (words words_at.Root) refl).1)

    -- with less left than before
    pub anew_rank : rank_of (words words_at.Root) (restarted m (words words_at.Root)) < rank 3 0 0
    anew_rank = let f = root_leads m.call.made m.call.mode words m.call.task m.call.remembered.fill (words words_at.Root) refl in let l = f.0 in
        omega (arith, l)

-- the next table is there: a call continues in it, or copies first
pub goes_on_lowers : (words : At → ℕ) (m : Machine) → IsIncremental m.call.mode → (n t : ℕ) → words words_at.Root ≤ t
    → ((u : ℕ) → left_by m.call.state ≡ Some u → words words_at.Root ≤ u) → (n == 0) ≡ false → (n ≡ 0) ⊎ ((t < n) × (n ≤ 2 ^ 32))
    → (rank_of (words words_at.Root) (onward m n) < rank 2 (further t) (2 ^ 68 + 3)) × IsCallRead words (onward m n)
goes_on_lowers words m inc n t least left some number =
    ⊎_elim
    (λ (none : n ≡ 0). absurd (let y : (n == 0) ≡ true = ap (λ x. x == 0) none in cc (y, some)))
    (λ (up : (t < n) × (n ≤ 2 ^ 32)). let a = up.0 in (onward_rank words m n t up.0 up.1, onward_current words m inc n (omega (arith, a, least)) left))
    number

-- two tests, of which the second holds
or_right : (a b : Bool) → b ≡ true → (a || b) ≡ true
or_right true b e = refl
or_right false b e = e

-- a copy of all of the root continues
pub all_rank : (root met : ℕ) → root ≡ met → rank_at_root root (aims.All met) < rank 2 0 0
all_rank root met is =
    cond_both (met == 0 || met == root) (rank 1 0 (2 * 2 ^ 102)) (rank 3 0 0) (λ r. r < rank 2 0 0)
    (λ e. omega arith)
    (λ e. absurd (let y : (met == 0 || met == root) ≡ true = or_right (met == 0) (met == root) (eq-eqb met root (sym is)) in cc (y, e)))

module _ (words : At → ℕ) (m : Machine) where
  -- a call that needs the next table looked it up: less is left, and the words that were read are
  -- unchanged
  pub grows_lowers : (how : ResizeMode) → m.call.mode ≡ how → (need : Need) (n : ℕ) → left_by m.call.state ≡ Some (needed need)
      → IsAhead how words (needed need) → words (words_at.Next (needed need)) ≡ n → (n ≡ 0) ⊎ ((needed need < n) × (n ≤ 2 ^ 32))
      → (rank_of (words words_at.Root) (grows_as m how need n) < rank 2 (further (needed need)) (2 ^ 68 + 3)) × IsCallRead words (grows_as m how need n)
  grows_lowers Blocking moded need n left ahead is number =
      let a = all_rank (words words_at.Root) (needed need) ahead in
      (omega (arith, a), ((tt, tt), λ t how e. absurd (subst IsIncremental moded how)))
  grows_lowers (Incremental chunk) moded need n left ahead is number =
      let inc : IsIncremental m.call.mode = subst IsIncremental (sym moded) tt in
      let least : (t : ℕ) → left_by m.call.state ≡ Some t → words words_at.Root ≤ t = λ t e. let same : t ≡ needed need = cc (left, e) in
      omega (arith, same, ahead) in
      cond_both (n == 0) (record m { phase = Linking (links.Sizing (needed need) (needed need) false) }) (onward m n)
      (λ m'. (rank_of (words words_at.Root) m' < rank 2 (further (needed need)) (2 ^ 68 + 3)) × IsCallRead words m')
      (λ none. (omega arith, (inc, is ∙ eqb-true n 0 none, least)))
      (λ some. goes_on_lowers words m inc n (needed need) (ahead_least words (Incremental chunk) (needed need) ahead) least some number)
