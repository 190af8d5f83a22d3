-- One whole call of a map for one caller, as turns of a core with one seat.
use Rattle.std.proofs.Common.{◌≡◌, ℕ, ◌^◌, ◌<◌, ◌≤◌, Bool, Option, None, Some, [], ◌∷◌, length, inl, refl, subst}
use Rattle.std.specs.Int.{IsPowerOfTwo}
use Rattle.papaya_core_store.specs.declared.store.Mode.{Mode}
use Rattle.papaya_call.specs.declared.call.Call.{Call}
use Rattle.papaya_call.specs.declared.call.Reply.{Reply}
use Rattle.papaya_core_store.specs.Store.{StoreState}
use Rattle.papaya_core_timeline.specs.declared.seat.Work.{Work}
use Rattle.papaya_core_timeline.specs.declared.trace.Entry.{Entry}
use Rattle.papaya_core_timeline.specs.declared.trace.Event.{Event}
use Rattle.papaya_core_timeline.specs.declared.trace.Event.TheVariants.{Begun, Replied}
use Rattle.papaya_core_timeline.specs.declared.trace.Turn.TheVariants.{Begin, Finish}
use Rattle.papaya_core_timeline.specs.Begins.{Begins, begun_work}
use Rattle.papaya_core_timeline.specs.Core.{CoreState}
use Rattle.papaya_core_timeline.specs.Maps.{key_of}
use Rattle.papaya_core_timeline.specs.Runs.{History, StepsRun, TurnsRun, with_event, with_step}
use Rattle.papaya_core_timeline.specs.Solo.{RunsAlone, whatever}
use Rattle.papaya_seq.specs.Lengths.{IsLongEnough}
use Rattle.papaya_seq.specs.Map.{MapState, core_of}

-- a core whose one seat has this
abbrev pub seated_work : {K V S A : Type 0} → StoreState K V S → Option (Work K V A) → Mode → ℕ → CoreState K V S A
seated_work store work mode initial = record { store = store; callers = record { caller = 0; work = work } ∷ []; mode = mode; initial = initial }

-- the last of a step's entries is its reply
pub last_entry : (event : Event) (o : Option Reply) (before : History) (reply : Reply) → o ≡ Some reply → (last : Entry) × (rest : History)
    × (with_step 1 0 event o before ≡ last ∷ rest) × (last.event ≡ Replied reply)
last_entry event None before reply e = let f : None ≡ Some reply = e in absurd cc
last_entry event (Some told) before reply e =
    let same : told ≡ reply = cc in
    (record { turn = 1; caller = 0; event = Replied told }, with_event 1 0 event before, refl, subst (λ r. Replied told ≡ Replied r) same refl)

module _ {K V S : Type 0} (eq : K → K → Bool) (hash : S → K → ℕ) (s : MapState K V S) (call : Call K V (Unit {0})) where
  -- the call as it begins with this number, in its seat
  abbrev pub start : (number : ℕ) → CoreState K V S (Unit {0})
  start number = seated_work s.store (Some (begun_work (hash s.store.hasher) s.mode s.initial number call)) s.mode s.initial

  -- the hash of its key has 64 bits
  abbrev pub IsHashed : Type 0
  IsHashed = (k : K) → key_of call ≡ Some k → hash s.store.hasher k < 2 ^ 64

  -- it begins
  abbrev pub begins_so : (number : ℕ) → IsHashed → IsPowerOfTwo s.initial → Begins (hash s.store.hasher) (core_of s) 0 call (start number)
  begins_so number fits power = record { number = number; store = refl; callers = refl; mode = refl; initial = refl; fits = fits; power = power }

  -- the turns of a run that made `steps` steps
  pub turns_made : (number : ℕ) → IsHashed → IsPowerOfTwo s.initial → (steps : ℕ) (s' : CoreState K V S (Unit {0})) (history : History)
      → StepsRun eq whatever hash 1 0 steps (start number) (with_event 0 0 Begun []) s' history
      → TurnsRun eq whatever hash (Begin 0 call ∷ Finish 0 steps ∷ []) 2 (core_of s) s' history
  turns_made number fits power steps s' history runs = (
    Finish 0 steps,
    start number,
    with_event 0 0 Begun [],
    refl,
    (Begin 0 call, core_of s, [], refl, (refl, refl), inl (refl, begins_so number fits power, refl)),
    runs,
  )

  -- if there is a limit, a number was taken for each pair
  abbrev pub HasNumbers : StoreState K V S → Type 0
  HasNumbers store = (most : ℕ) → s.mode.limit ≡ Some most → length store.pairs ≤ store.words.made

  -- The call has replied: it was made alone, and left no table shorter than the initial capacity, and a number for each pair.
  pub record IsOver (store : StoreState K V S) (reply : Reply) : Type 0 where
    pub ran : RunsAlone eq hash (core_of s) call reply (seated_work store None s.mode s.initial)
    pub long : IsLongEnough s.initial store.words
    pub numbered : HasNumbers store

  pub made_over : (number : ℕ) → IsHashed → IsPowerOfTwo s.initial → (steps : ℕ) (store : StoreState K V S) (history : History)
      → StepsRun eq whatever hash 1 0 steps (start number) (with_event 0 0 Begun []) (seated_work store None s.mode s.initial) history
      → (reply : Reply) (last : Entry) (before : History) → history ≡ last ∷ before → last.event ≡ Replied reply → IsLongEnough s.initial store.words
      → HasNumbers store → IsOver store reply
  made_over number fits power steps store history runs reply last before ends replied long numbered = record {
    long = long;
    numbered = numbered;
    ran = record {
      idle = refl;
      steps = steps;
      last = last;
      before = before;
      runs = turns_made number fits power steps (seated_work store None s.mode s.initial) (last ∷ before)
          (subst (λ (h : History). StepsRun eq whatever hash 1 0 steps (start number) (with_event 0 0 Begun [])
          (seated_work store None s.mode s.initial) h) ends runs);
      replied = replied;
    };
  }
