-- The table that a lookup names after an answer; and each answer leaves it fewer steps.
use Rattle.std.proofs.Common.{◌≡◌, ℕ, ◌+◌, ◌*◌, ◌-◌, ◌^◌, ◌<◌, ◌≤◌, ◌==◌, nat_lt, Bool, true, false, if◌then◌else◌, Option, Some, refl, sym, ap, ◌∙◌, arith}
use Rattle.std.proofs.lemmas.Bool.{eqb-false, ltb-true}
use Rattle.papaya_words.specs.Word.{kind_of, may_hold, pair_of}
use Rattle.papaya_words.specs.declared.word.Kind.{Kind}
use Rattle.papaya_words.specs.declared.word.Kind.TheVariants as kinds
use Rattle.papaya_words.specs.declared.resize_mode.ResizeMode.{ResizeMode}
use Rattle.papaya_words.specs.declared.resize_mode.ResizeMode.TheVariants.{Incremental, Blocking}
use Rattle.papaya_call.specs.declared.ask.At.TheVariants.{Root, Next, Slot}
use Rattle.papaya_call.specs.declared.ask.Ask.TheVariants.{Load, LoadHint, SameKey, SizeOf}
use Rattle.papaya_call.specs.declared.ask.Answer.TheVariants.{Word, Yes, Size}
use Rattle.papaya_call.specs.declared.call.Reply.{Reply}
use Rattle.papaya_call.specs.declared.call.Reply.TheVariants.{Absent, Found}
use Rattle.papaya_call.specs.declared.call.Task.TheVariants.{Get}
use Rattle.papaya_call.specs.declared.compute.Remembered.{Remembered}
use Rattle.papaya_call.specs.declared.search.Place.{Place}
use Rattle.papaya_call.specs.declared.search.Search.TheVariants.{Sizing, Looking, Reading, Comparing}
use Rattle.papaya_call.specs.declared.search.ProbeStep.{ProbeStep}
use Rattle.papaya_call.specs.declared.search.ProbeStep.TheVariants.{On, Over}
use Rattle.papaya_call.specs.declared.made.Made.{Made}
use Rattle.papaya_call.specs.declared.machine.State.{State}
use Rattle.papaya_call.specs.declared.machine.State.TheVariants.{AtRoot, Making, Opening, Searching}
use Rattle.papaya_call.specs.declared.machine.State.TheVariants.{Writing, Offering, Showing}
use Rattle.papaya_call.specs.declared.machine.State.TheVariants.{Pairing, Putting, Burying}
use Rattle.papaya_call.specs.declared.machine.State.TheVariants.{Counting, Noting, Uncounting}
use Rattle.papaya_call.specs.declared.machine.State.TheVariants.{Leaving, Growing, Ended}
use Rattle.papaya_call.specs.declared.machine.Machine.{Machine}
use Rattle.papaya_call.specs.Search.{next_place, go_on, hinted, look_at, match_at, at_yes as search_compared}
use Rattle.papaya_call.specs.Machine.{IsValidState, after, asks, passes, goes_as}
use Rattle.papaya_call_law.proofs.LoadsLeft.{chosen}
use Rattle.papaya_map_lookup.specs.Lookups.{left_in, left_of, table_of}

-- a lookup reaches this state after a place of table u, with this much left of u
record Follows (u more : ℕ) (s : State) : Type 0 where
  pub table : (v : ℕ) → table_of s ≡ Some v → u ≡ v
  pub fewer : left_of s ≤ left_in u more

follows_ended : (u more : ℕ) (reply : Reply) → Follows u more (Ended reply)
follows_ended u more reply = record { table = λ v e. absurd (cc e); fewer = omega arith }

follows_passes : (mode : ResizeMode) (fill : Option ℕ) (u more : ℕ) → 1 ≤ more → Follows u more (passes Get mode fill u)
follows_passes (Incremental chunk) fill u more le = record { table = λ v e. cc e; fewer = omega (arith, le) }
follows_passes Blocking fill u more le = follows_ended u more Absent

module _ (mode : ResizeMode) (held : Remembered) (at : Place) (within : at.probe.len ≤ at.limit) where
  -- the outcome of a probe leads to such a state
  abbrev Leads : ℕ → ProbeStep → Type 0
  Leads more seen = Follows at.table more (goes_as Get mode held seen)

  leads_on : (more : ℕ) → 3 * (at.limit + 1 - at.probe.len) ≤ more + 2 → Leads more (go_on at)
  leads_on more le =
      chosen (Leads more) (nat_lt at.probe.len at.limit) (On (Looking (next_place at))) (Over at.table)
      (λ e. let lt = ltb-true at.probe.len at.limit e in record { table = λ v h. cc h; fewer = omega (arith, le, lt) })
      (λ e. follows_passes mode held.fill at.table more (omega (arith, le, within)))

  -- after a hint
  abbrev hint_read : ℕ
  hint_read = 3 * (at.limit + 1 - at.probe.len)

  leads_hinted : (hash hint : ℕ) → Leads hint_read (hinted at hash hint)
  leads_hinted hash hint =
      chosen (Leads hint_read) (may_hold hint hash) (On (Reading at)) (go_on at)
      (λ e. record { table = λ v h. cc h; fewer = omega arith })
      (λ e. leads_on hint_read (omega arith))

  -- after a word
  abbrev word_read : ℕ
  word_read = 3 * (at.limit + 1 - at.probe.len) - 1

  leads_compare : (word : ℕ) → Leads word_read (On (Comparing at word))
  leads_compare word = record { table = λ v h. cc h; fewer = omega arith }

  leads_look : (kind : Kind) (word : ℕ) → Leads word_read (look_at kind at word)
  leads_look kinds.Empty word = follows_ended at.table word_read Absent
  leads_look kinds.Live word = leads_compare word
  leads_look kinds.Marked word = leads_compare word
  leads_look kinds.Copied word = leads_compare word
  leads_look kinds.Buried word = leads_on word_read (omega arith)
  leads_look kinds.Closed word = leads_on word_read (omega arith)

  -- after a comparison
  abbrev compared : ℕ
  compared = 3 * (at.limit + 1 - at.probe.len) - 2

  leads_match : (kind : Kind) (word : ℕ) → Leads compared (match_at kind at word)
  leads_match kinds.Empty word = follows_ended at.table compared (Found (pair_of word))
  leads_match kinds.Live word = follows_ended at.table compared (Found (pair_of word))
  leads_match kinds.Marked word = follows_ended at.table compared (Found (pair_of word))
  leads_match kinds.Copied word = follows_passes mode held.fill at.table compared (omega (arith, within))
  leads_match kinds.Buried word = follows_ended at.table compared (Found (pair_of word))
  leads_match kinds.Closed word = follows_ended at.table compared (Found (pair_of word))

  leads_compared : (word : ℕ) (same : Bool) → Leads compared (search_compared (Comparing at word) same)
  leads_compared word true = leads_match (kind_of word) word
  leads_compared word false = leads_on compared (omega arith)

-- no load alone lets a lookup find its pair
abbrev IsUnfound : State → Type 0
IsUnfound s = (n : ℕ) → s ≡ Ended (Found n) → ⊥

unfound_passes : (mode : ResizeMode) (fill : Option ℕ) (u : ℕ) → IsUnfound (passes Get mode fill u)
unfound_passes (Incremental chunk) fill u = λ n e. cc e
unfound_passes Blocking fill u = λ n e. cc e

unfound_on : (mode : ResizeMode) (held : Remembered) (at : Place) → IsUnfound (goes_as Get mode held (go_on at))
unfound_on mode held at = chosen (λ s. IsUnfound (goes_as Get mode held s)) (nat_lt at.probe.len at.limit) (On (Looking (next_place at)))
    (Over at.table) (λ e n h. cc h) (λ e. unfound_passes mode held.fill at.table)

unfound_hinted : (mode : ResizeMode) (held : Remembered) (at : Place) (hash hint : ℕ) → IsUnfound (goes_as Get mode held (hinted at hash hint))
unfound_hinted mode held at hash hint = chosen (λ s. IsUnfound (goes_as Get mode held s)) (may_hold hint hash) (On (Reading at)) (go_on at)
    (λ e n h. cc h) (λ e. unfound_on mode held at)

unfound_look : (mode : ResizeMode) (held : Remembered) (at : Place) (kind : Kind) (word : ℕ) → IsUnfound (goes_as Get mode held (look_at kind at word))
unfound_look mode held at kinds.Empty word = λ n e. cc e
unfound_look mode held at kinds.Live word = λ n e. cc e
unfound_look mode held at kinds.Marked word = λ n e. cc e
unfound_look mode held at kinds.Copied word = λ n e. cc e
unfound_look mode held at kinds.Buried word = unfound_on mode held at
unfound_look mode held at kinds.Closed word = unfound_on mode held at

-- An answer to a lookup that names table t: it continues in this table or in none, and less is
-- left.
pub record IsStepIn (t : ℕ) (s s' : State) : Type 0 where
  pub names : table_of s ≡ Some t
  pub table : (v : ℕ) → table_of s' ≡ Some v → t ≡ v
  pub fewer : left_of s' < left_of s

-- An answer with the number of a table, or 0: it continues in that table, or in none.
pub record IsStepTo (n : ℕ) (s s' : State) : Type 0 where
  pub table : (v : ℕ) → table_of s' ≡ Some v → (n ≡ v) × (n ≡ 0 → ⊥)
  pub fewer : left_of s' < left_of s
  pub unfound : IsUnfound s'

module _ (hash initial : ℕ) (mode : ResizeMode) (made : Made) (held : Remembered) where
  -- a lookup in this state
  abbrev pub lookup : State → Machine
  lookup s = record { task = Get; hash = hash; mode = mode; initial = initial; made = made; remembered = held; state = s }

  -- a slot was loaded
  pub slot_step : (s : State) → IsValidState Get s → (t x word : ℕ) → asks made hash s ≡ Load (Slot t x)
      → IsStepIn t s (after (lookup s) (Word word)).state × IsUnfound (after (lookup s) (Word word)).state
  slot_step AtRoot stands t x word e = absurd (cc e)
  slot_step Making stands t x word e = absurd stands
  slot_step (Opening u) stands t x word e = absurd stands
  slot_step (Searching (Sizing u)) stands t x word e = absurd (cc e)
  slot_step (Searching (Looking at)) stands t x word e = absurd (cc e)
  slot_step (Searching (Reading at)) stands t x word e =
      let is : at.table ≡ t = cc e in let f = leads_look mode held at stands.len (kind_of word) word in (
        record {
          names = ap Some is;
          table = λ v h. sym is ∙ f.table v h;
          fewer = let le = f.fewer in let lt = stands.len in omega (arith, le, lt);
        },
        unfound_look mode held at (kind_of word) word,
      )
  slot_step (Searching (Comparing at found)) stands t x word e = absurd (cc e)
  slot_step (Writing write) stands t x word e = absurd stands.0
  slot_step (Offering gap) stands t x word e = absurd stands.0
  slot_step (Showing removal) stands t x word e = absurd stands.0
  slot_step (Pairing purpose) stands t x word e = absurd stands.0
  slot_step (Putting put) stands t x word e = absurd stands.0
  slot_step (Burying removal) stands t x word e = absurd stands.0
  slot_step (Counting n) stands t x word e = absurd stands
  slot_step (Noting n) stands t x word e = absurd stands
  slot_step (Uncounting n) stands t x word e = absurd stands
  slot_step (Leaving u) stands t x word e = absurd (cc e)
  slot_step (Growing u) stands t x word e = absurd stands
  slot_step (Ended reply) stands t x word e = absurd (cc e)

  -- the hint of a slot was loaded
  pub hint_step : (s : State) → IsValidState Get s → (t x word : ℕ) → asks made hash s ≡ LoadHint t x
      → IsStepIn t s (after (lookup s) (Word word)).state × IsUnfound (after (lookup s) (Word word)).state
  hint_step AtRoot stands t x word e = absurd (cc e)
  hint_step Making stands t x word e = absurd stands
  hint_step (Opening u) stands t x word e = absurd stands
  hint_step (Searching (Sizing u)) stands t x word e = absurd (cc e)
  hint_step (Searching (Looking at)) stands t x word e =
      let is : at.table ≡ t = cc e in let f = leads_hinted mode held at stands.len hash word in (
        record {
          names = ap Some is;
          table = λ v h. sym is ∙ f.table v h;
          fewer = let le = f.fewer in omega (arith, le);
        },
        unfound_hinted mode held at hash word,
      )
  hint_step (Searching (Reading at)) stands t x word e = absurd (cc e)
  hint_step (Searching (Comparing at found)) stands t x word e = absurd (cc e)
  hint_step (Writing write) stands t x word e = absurd stands.0
  hint_step (Offering gap) stands t x word e = absurd stands.0
  hint_step (Showing removal) stands t x word e = absurd stands.0
  hint_step (Pairing purpose) stands t x word e = absurd stands.0
  hint_step (Putting put) stands t x word e = absurd stands.0
  hint_step (Burying removal) stands t x word e = absurd stands.0
  hint_step (Counting n) stands t x word e = absurd stands
  hint_step (Noting n) stands t x word e = absurd stands
  hint_step (Uncounting n) stands t x word e = absurd stands
  hint_step (Leaving u) stands t x word e = absurd (cc e)
  hint_step (Growing u) stands t x word e = absurd stands
  hint_step (Ended reply) stands t x word e = absurd (cc e)

  -- the size of a table was received
  pub size_step : (s : State) → IsValidState Get s → (t slots limit : ℕ) → limit < 2 ^ 32 → asks made hash s ≡ SizeOf t
      → IsStepIn t s (after (lookup s) (Size slots limit)).state × IsUnfound (after (lookup s) (Size slots limit)).state
  size_step AtRoot stands t slots limit few e = absurd (cc e)
  size_step Making stands t slots limit few e = absurd stands
  size_step (Opening u) stands t slots limit few e = absurd stands
  size_step (Searching (Sizing u)) stands t slots limit few e =
      let is : u ≡ t = cc e in (record { names = ap Some is; table = λ v h. let j : u ≡ v = cc h in sym is ∙ j; fewer = omega (arith, few) }, λ n h. cc h)
  size_step (Searching (Looking at)) stands t slots limit few e = absurd (cc e)
  size_step (Searching (Reading at)) stands t slots limit few e = absurd (cc e)
  size_step (Searching (Comparing at found)) stands t slots limit few e = absurd (cc e)
  size_step (Writing write) stands t slots limit few e = absurd stands.0
  size_step (Offering gap) stands t slots limit few e = absurd stands.0
  size_step (Showing removal) stands t slots limit few e = absurd stands.0
  size_step (Pairing purpose) stands t slots limit few e = absurd stands.0
  size_step (Putting put) stands t slots limit few e = absurd stands.0
  size_step (Burying removal) stands t slots limit few e = absurd stands.0
  size_step (Counting n) stands t slots limit few e = absurd stands
  size_step (Noting n) stands t slots limit few e = absurd stands
  size_step (Uncounting n) stands t slots limit few e = absurd stands
  size_step (Leaving u) stands t slots limit few e = absurd (cc e)
  size_step (Growing u) stands t slots limit few e = absurd stands
  size_step (Ended reply) stands t slots limit few e = absurd (cc e)

  -- the pair last passed to the machine was compared
  pub yes_step : (s : State) → IsValidState Get s → (n : ℕ) (same : Bool) → asks made hash s ≡ SameKey n → (t : ℕ)
      × IsStepIn t s (after (lookup s) (Yes same)).state
  yes_step AtRoot stands n same e = absurd (cc e)
  yes_step Making stands n same e = absurd stands
  yes_step (Opening u) stands n same e = absurd stands
  yes_step (Searching (Sizing u)) stands n same e = absurd (cc e)
  yes_step (Searching (Looking at)) stands n same e = absurd (cc e)
  yes_step (Searching (Reading at)) stands n same e = absurd (cc e)
  yes_step (Searching (Comparing at word)) stands n same e =
      let f = leads_compared mode held at stands.len word same in
      (at.table, record { names = refl; table = f.table; fewer = let le = f.fewer in let lt = stands.len in omega (arith, le, lt) })
  yes_step (Writing write) stands n same e = absurd stands.0
  yes_step (Offering gap) stands n same e = absurd stands.0
  yes_step (Showing removal) stands n same e = absurd stands.0
  yes_step (Pairing purpose) stands n same e = absurd stands.0
  yes_step (Putting put) stands n same e = absurd stands.0
  yes_step (Burying removal) stands n same e = absurd stands.0
  yes_step (Counting m) stands n same e = absurd stands
  yes_step (Noting m) stands n same e = absurd stands
  yes_step (Uncounting m) stands n same e = absurd stands
  yes_step (Leaving u) stands n same e = absurd (cc e)
  yes_step (Growing u) stands n same e = absurd stands
  yes_step (Ended reply) stands n same e = absurd (cc e)

  -- the number of a table was loaded, from a state with more to do
  numbered : (s : State) (word : ℕ) → 0 < left_of s → ((word ≡ 0 → ⊥) → left_in word (3 * 2 ^ 32 + 5) < left_of s)
      → IsStepTo word s (if word == 0 then Ended Absent else Searching (Sizing word))
  numbered s word some less =
      chosen (IsStepTo word s) (word == 0) (Ended Absent) (Searching (Sizing word))
      (λ e. record { table = λ v h. absurd (cc h); fewer = omega (arith, some); unfound = λ n h. cc h })
      (λ e. let differs = eqb-false word 0 e in record { table = λ v h. (cc h, differs); fewer = less differs; unfound = λ n h. cc h })

  pub root_step : (s : State) → IsValidState Get s → (word : ℕ) → asks made hash s ≡ Load Root → IsStepTo word s (after (lookup s) (Word word)).state
  root_step AtRoot stands word e = numbered AtRoot word (omega arith) (λ some. omega arith)
  root_step Making stands word e = absurd stands
  root_step (Opening u) stands word e = absurd stands
  root_step (Searching (Sizing u)) stands word e = absurd (cc e)
  root_step (Searching (Looking at)) stands word e = absurd (cc e)
  root_step (Searching (Reading at)) stands word e = absurd (cc e)
  root_step (Searching (Comparing at found)) stands word e = absurd (cc e)
  root_step (Writing write) stands word e = absurd stands.0
  root_step (Offering gap) stands word e = absurd stands.0
  root_step (Showing removal) stands word e = absurd stands.0
  root_step (Pairing purpose) stands word e = absurd stands.0
  root_step (Putting put) stands word e = absurd stands.0
  root_step (Burying removal) stands word e = absurd stands.0
  root_step (Counting n) stands word e = absurd stands
  root_step (Noting n) stands word e = absurd stands
  root_step (Uncounting n) stands word e = absurd stands
  root_step (Leaving u) stands word e = absurd (cc e)
  root_step (Growing u) stands word e = absurd stands
  root_step (Ended reply) stands word e = absurd (cc e)

  -- a next table has a greater number, which is no more than a table's may be
  pub next_step : (s : State) → IsValidState Get s → (t word : ℕ) → ((word ≡ 0 → ⊥) → (t < word) × (word ≤ 2 ^ 32))
      → asks made hash s ≡ Load (Next t) → (table_of s ≡ Some t) × IsStepTo word s (after (lookup s) (Word word)).state
  next_step AtRoot stands t word up e = absurd (cc e)
  next_step Making stands t word up e = absurd stands
  next_step (Opening u) stands t word up e = absurd stands
  next_step (Searching (Sizing u)) stands t word up e = absurd (cc e)
  next_step (Searching (Looking at)) stands t word up e = absurd (cc e)
  next_step (Searching (Reading at)) stands t word up e = absurd (cc e)
  next_step (Searching (Comparing at found)) stands t word up e = absurd (cc e)
  next_step (Writing write) stands t word up e = absurd stands.0
  next_step (Offering gap) stands t word up e = absurd stands.0
  next_step (Showing removal) stands t word up e = absurd stands.0
  next_step (Pairing purpose) stands t word up e = absurd stands.0
  next_step (Putting put) stands t word up e = absurd stands.0
  next_step (Burying removal) stands t word up e = absurd stands.0
  next_step (Counting n) stands t word up e = absurd stands
  next_step (Noting n) stands t word up e = absurd stands
  next_step (Uncounting n) stands t word up e = absurd stands
  next_step (Leaving u) stands t word up e =
      let is : u ≡ t = cc e in (
        ap Some is,
        numbered (Leaving u) word (omega arith)
            (λ some. let h = up some in let lt = h.0 in let le = h.1 in omega (arith, lt, le, is)),
      )
  next_step (Growing u) stands t word up e = absurd stands
  next_step (Ended reply) stands t word up e = absurd (cc e)
