-- Answers to a copy's asks, one after another: the state after each, and how they are combined.
use Rattle.std.proofs.Common.{◌≡◌, ℕ, ◌+◌, ◌<◌, ◌==◌, nat_lt, Bool, true, false, if◌then◌else◌}
use Rattle.std.proofs.Common.{Option, None, Some, List, [], ◌∷◌, ◌++◌, append-nil, refl, sym, ap}
use Rattle.std.proofs.Common.{◌∙◌, subst}
use Rattle.std.proofs.lemmas.Bool.{eq-eqb, lt-ltb, ltb-true, ne_eqb}
use mathlib.Core.List.{IsPrefix}
use Rattle.logbook.specs.Pages.{Book}
use Rattle.papaya_words.specs.declared.resize_mode.ResizeMode.{ResizeMode}
use Rattle.papaya_words.specs.declared.resize_mode.ResizeMode.TheVariants.{Blocking, Incremental}
use Rattle.papaya_words.specs.declared.word.Kind.{Kind}
use Rattle.papaya_words.specs.declared.word.Kind.TheVariants as word_kinds
use Rattle.papaya_words.specs.Word.{kind_of, live_word, may_hold, pair_of}
use Rattle.papaya_call.specs.declared.ask.Answer.TheVariants.{Exchanged, Found, Ok as Ok_done, Size, Word}
use Rattle.papaya_call.specs.declared.ask.At.TheVariants.{Slot}
use Rattle.papaya_call.specs.declared.ask.StepKind.{StepKind}
use Rattle.papaya_call.specs.declared.ask.StepKind.TheVariants as kinds
use Rattle.papaya_call.specs.declared.search.Place.{Place}
use Rattle.papaya_call.specs.declared.search.Search.TheVariants as seeking
use Rattle.papaya_call.specs.declared.search.ProbeStep.TheVariants as seen
use Rattle.papaya_call.specs.Search.{IsWithin, first_place, next_place}
use Rattle.papaya_call.specs.Search as searches
use Rattle.papaya_call.specs.declared.copy.carry.Carried.{Carried}
use Rattle.papaya_call.specs.declared.copy.carry.Carried.TheVariants.{On as Carry_on}
use Rattle.papaya_call.specs.declared.copy.carry.Carry.{Carry}
use Rattle.papaya_call.specs.declared.copy.carry.Carry.TheVariants.{Hashing, Looking as Looking_at, Placed, Placing, Reading as Reading_at, Sizing}
use Rattle.papaya_call.specs.declared.copy.copying.Aim.{Aim}
use Rattle.papaya_call.specs.declared.copy.copying.Copied.TheVariants.{On}
use Rattle.papaya_call.specs.declared.copy.copying.Copying.TheVariants.{Stepping}
use Rattle.papaya_call.specs.declared.copy.settle.Settle.{Settle}
use Rattle.papaya_call.specs.declared.copy.settle.Settle.TheVariants.{Carrying, Closing, Finishing, Looking, Marking, Shutting}
use Rattle.papaya_call.specs.declared.copy.settle.Settled.{Settled}
use Rattle.papaya_call.specs.declared.copy.settle.Settled.TheVariants.{On as Settle_on, Settled as Was_settled}
use Rattle.papaya_call.specs.declared.copy.settle.SlotToCopy.{SlotToCopy as Slot_of}
use Rattle.papaya_call.specs.declared.copy.step.Chunk.{Chunk}
use Rattle.papaya_call.specs.declared.copy.step.Step.TheVariants.{Advancing, Settling}
use Rattle.papaya_call.specs.declared.copy.step.Stepped.TheVariants.{On as Step_on}
use Rattle.papaya_call.specs.Carry.{IsValidCarry, fills}
use Rattle.papaya_call.specs.Carry as carries
use Rattle.papaya_call.specs.Copying.{IsValidCopying, leads}
use Rattle.papaya_call.specs.Settle.{IsValidSettle, copied_as, finishes, look_at, marked_as, settled_by}
use Rattle.papaya_call.specs.Step.{IsValidChunk, next_slot, settled_to, slot_of}
use Rattle.papaya_call.specs.ChainMachine.{IsFit, copying_after}
use Rattle.papaya_call.specs.declared.chain.ask.Answer.{Answer}
use Rattle.papaya_call.specs.declared.chain.ask.Answer.TheVariants.{Call, Hash}
use Rattle.papaya_map_book.specs.declared.rule.entry.Begun.{Begun}
use Rattle.papaya_map_book.specs.declared.rule.entry.Event.{Event}
use Rattle.papaya_map_change.specs.declared.copier.Copier.{Copier}
use Rattle.papaya_map_change.specs.declared.settling.Halt.{Halt}
use Rattle.papaya_map_book.specs.Hinted.{IsSlotHint}
use Rattle.papaya_map_book.specs.Rule.{IsLawfulLog}
use Rattle.papaya_map_change.specs.Copier.{AnswersExchange, Carries, HasTried, IsSizeOf, tried_answer}
use Rattle.papaya_map_change.specs.Helping.{IsLoadedFor}
use Rattle.papaya_map_change.specs.Settling.{AnswersAt, CanStep, Ends, IsPath, IsMoveStep, StepsTo, LeavesSlot, Stop, at_slot, past_slot}

module _ {K V S H : Type 0} (eq : K → K → Bool) (hash : S → K → ℕ) (b : Begun K V S) (name : Book) where
  module _ (mode : ResizeMode) where
    path_then : (ts us : List (Stop K V S H)) (s t u : Stop K V S H) → IsPath eq hash b name mode ts s t → IsPath eq hash b name mode us t u
        → IsPath eq hash b name mode (ts ++ us) s u
    path_then [] us s t u p q = subst (λ (z : Stop K V S H). IsPath eq hash b name mode us z u) p q
    path_then (x ∷ ts) us s t u p q = (p.0, path_then ts us x t u p.1 q)

    -- one answer after others
    pub leads_then : (s t u : Stop K V S H) → StepsTo eq hash b name mode s t → StepsTo eq hash b name mode t u → StepsTo eq hash b name mode s u
    leads_then s t u l m = (l.0 ++ m.0, path_then l.0 m.0 s t u l.1 m.1)

    pub leads_one : (s t : Stop K V S H) → IsMoveStep eq hash b name mode s t → StepsTo eq hash b name mode s t
    leads_one s t turn = (t ∷ [], (turn, refl))

    pub leads_none : (s : Stop K V S H) → StepsTo eq hash b name mode s s
    leads_none s = ([], refl)

    -- a later ask
    pub can_then : (s t : Stop K V S H) → CanStep eq hash b name mode s → IsMoveStep eq hash b name mode s t → CanStep eq hash b name mode t
    can_then s t can turn = λ u l. can u (leads_then s t u (leads_one s t turn) l)

    pub can_later : (s t : Stop K V S H) → CanStep eq hash b name mode s → StepsTo eq hash b name mode s t → CanStep eq hash b name mode t
    can_later s t can led = λ u l. can u (leads_then s t u led l)

    pub ends_then : (s t s' : Stop K V S H) (answer : Answer) → StepsTo eq hash b name mode s t → Ends eq hash b name mode t s' answer
        → Ends eq hash b name mode s s' answer
    ends_then s t s' answer l e = record {
      log = e.log;
      loaded = e.loaded;
      leads = leads_then s t (record { copying = s'.copying; log = e.log; loaded = e.loaded }) l e.leads;
      since = e.since;
      answers = e.answers;
      valid = e.valid;
      fit = e.fit;
    }

    pub ends_here : (s : Stop K V S H) (log : List (Event K V S)) (h : Copier K V S H) (answer : Answer) → IsPrefix s.log log
        → AnswersAt eq hash b name mode s log h answer → IsValidCopying s.copying → IsFit answer
        → Ends eq hash b name mode s (record { copying = s.copying; log = log; loaded = h }) answer
    ends_here s log h answer since answers valid fit = record {
      log = s.log;
      loaded = s.loaded;
      leads = leads_none s;
      since = since;
      answers = answers;
      valid = valid;
      fit = fit;
    }

    -- the copy of a slot continues from the state after an answer
    pub leaves_then : (aim : Aim) (chunk : Chunk) (s t : Stop K V S H) (log : List (Event K V S)) (h : Copier K V S H) (halt : Option Halt)
        → IsMoveStep eq hash b name mode s t → LeavesSlot eq hash b name mode aim chunk t log h halt → LeavesSlot eq hash b name mode aim chunk s log h halt
    leaves_then aim chunk s t log h None turn l = leads_then s t (record { copying = past_slot aim chunk; log = log; loaded = h }) (leads_one s t turn) l
    leaves_then aim chunk s t log h (Some halt) turn e = ends_then s t (record { copying = at_slot aim chunk halt.settle; log = log; loaded = h })
        halt.answer (leads_one s t turn) e

    pub leaves_led : (aim : Aim) (chunk : Chunk) (s t : Stop K V S H) (log : List (Event K V S)) (h : Copier K V S H) (halt : Option Halt)
        → StepsTo eq hash b name mode s t → LeavesSlot eq hash b name mode aim chunk t log h halt → LeavesSlot eq hash b name mode aim chunk s log h halt
    leaves_led aim chunk s t log h None led l = leads_then s t (record { copying = past_slot aim chunk; log = log; loaded = h }) led l
    leaves_led aim chunk s t log h (Some halt) led e = ends_then s t (record { copying = at_slot aim chunk halt.settle; log = log; loaded = h })
        halt.answer led e

  -- an exchange of a slot was won, or lost
  module _ (t x : ℕ) (kind : Option StepKind) (old new : ℕ) (log : List (Event K V S)) (h : Copier K V S H) (log' : List (Event K V S))
      (h' : Copier K V S H) (found : ℕ) (tried : HasTried eq hash b name (Slot t x) kind (old, new) h.kept h.fresh log h.last found log' h'.last)
      (rest : h' ≡ record h { last = h'.last }) where
    pub told : AnswersExchange eq hash b name (Slot t x) kind old new log h log' h' (tried_answer found old)
    told = record {
      found = found;
      is = refl;
      tried = tried;
      hand = ap (λ (z : Copier K V S H). z.fresh) rest;
      rest = rest ∙ (λ i. record h { last = h'.last; fresh = (sym (ap (λ (z : Copier K V S H). z.fresh) rest)) i });
    }

    pub won : found ≡ old → AnswersExchange eq hash b name (Slot t x) kind old new log h log' h' (Call Exchanged)
    won is =
        let same : (found == old) ≡ true = eq-eqb found old is in
        subst (AnswersExchange eq hash b name (Slot t x) kind old new log h log' h')
        (ap (λ (z : Bool). if z then Call Exchanged else Call (Found found)) same) told

    pub lost : (found ≡ old → ⊥) → AnswersExchange eq hash b name (Slot t x) kind old new log h log' h' (Call (Found found))
    lost other =
        let same : (found == old) ≡ false = ne_eqb found old other in
        subst (AnswersExchange eq hash b name (Slot t x) kind old new log h log' h')
        (ap (λ (z : Bool). if z then Call Exchanged else Call (Found found)) same) told

-- the copy continues past a slot that is migrated
past_by : (aim : Aim) (chunk : Chunk) (mode : ResizeMode) (z : Bool)
    → leads aim mode (if z then Step_on (Settling (next_slot chunk) Looking) else Step_on (Advancing chunk.cursor)) ≡ On
    (if z then at_slot aim (next_slot chunk) Looking else Stepping aim (Advancing chunk.cursor))
past_by aim chunk mode true = refl
past_by aim chunk mode false = refl

pub past_on : (aim : Aim) (chunk : Chunk) (mode : ResizeMode) → leads aim mode (settled_to chunk Was_settled) ≡ On (past_slot aim chunk)
past_on aim chunk mode = past_by aim chunk mode (nat_lt (chunk.at + 1) chunk.end)

pub past_standing : (aim : Aim) (chunk : Chunk) → IsValidChunk chunk → IsValidCopying (past_slot aim chunk)
past_standing aim chunk valid = by_next (nat_lt (chunk.at + 1) chunk.end) refl
  where
    by_next : (z : Bool) → nat_lt (chunk.at + 1) chunk.end ≡ z
        → IsValidCopying (if z then at_slot aim (next_slot chunk) Looking else Stepping aim (Advancing chunk.cursor))
    by_next true is = (record { cursor = valid.cursor; at = ltb-true (chunk.at + 1) chunk.end is; within = valid.within }, tt)
    by_next false is = valid.cursor

-- this is the next slot, or the end of the chunk
pub past_next : (aim : Aim) (chunk : Chunk) → chunk.at + 1 < chunk.end → past_slot aim chunk ≡ at_slot aim (next_slot chunk) Looking
past_next aim chunk more = ap (λ (z : Bool). if z then at_slot aim (next_slot chunk) Looking else Stepping aim (Advancing chunk.cursor))
    (lt-ltb (chunk.at + 1) chunk.end more)

pub past_last : (aim : Aim) (chunk : Chunk) → (chunk.at + 1 < chunk.end → ⊥) → past_slot aim chunk ≡ Stepping aim (Advancing chunk.cursor)
past_last aim chunk none = ap (λ (z : Bool). if z then at_slot aim (next_slot chunk) Looking else Stepping aim (Advancing chunk.cursor))
    (not_below (nat_lt (chunk.at + 1) chunk.end) refl)
  where
    not_below : (z : Bool) → nat_lt (chunk.at + 1) chunk.end ≡ z → nat_lt (chunk.at + 1) chunk.end ≡ false
    not_below true is = absurd (none (ltb-true (chunk.at + 1) chunk.end is))
    not_below false is = is

-- the hint of a place leads the move of a pair as it leads a search
pub passes : (hash : ℕ) (at : Place) (mode : ResizeMode) (hint : ℕ) (next : Place) → searches.hinted at hash hint ≡ seen.On (seeking.Looking next)
    → (carries.hinted hash at mode hint ≡ Carry_on (Looking_at hash next)) × (next ≡ next_place at) × (at.probe.len < at.limit)
passes hash at mode hint next is = by_hint (may_hold hint hash) (nat_lt at.probe.len at.limit) refl is
  where
    by_hint : (x y : Bool) → nat_lt at.probe.len at.limit ≡ y
        → (if x then seen.On (seeking.Reading at) else if y then seen.On (seeking.Looking (next_place at)) else seen.Over at.table) ≡ seen.On
        (seeking.Looking next)
        → ((if x then Carry_on (Reading_at hash at) else if y then Carry_on (Looking_at hash (next_place at)) else Carry_on
        (fills hash at.table mode)) ≡ Carry_on (Looking_at hash next)) × (next ≡ next_place at) × (at.probe.len < at.limit)
    by_hint true y few e = absurd (cc e)
    by_hint false true few e = let same : next_place at ≡ next = cc e in
        (ap (λ (z : Place). Carry_on (Looking_at hash z)) same, sym same, ltb-true at.probe.len at.limit few)
    by_hint false false few e = absurd (cc e)

pub reads : (hash : ℕ) (at : Place) (mode : ResizeMode) (hint : ℕ) (it : Place) → searches.hinted at hash hint ≡ seen.On (seeking.Reading it)
    → carries.hinted hash at mode hint ≡ Carry_on (Reading_at hash at)
reads hash at mode hint it is = by_hint (may_hold hint hash) (nat_lt at.probe.len at.limit) is
  where
    by_hint : (x y : Bool) → (if x then seen.On (seeking.Reading at) else if y then seen.On (seeking.Looking (next_place at)) else seen.Over at.table)
        ≡ seen.On (seeking.Reading it)
        → (if x then Carry_on (Reading_at hash at) else if y then Carry_on (Looking_at hash (next_place at)) else Carry_on (fills hash at.table mode))
        ≡ Carry_on (Reading_at hash at)
    by_hint true y e = refl
    by_hint false true e = absurd (cc e)
    by_hint false false e = absurd (cc e)

-- a word that is neither empty, live nor marked is that of a migrated slot
pub looked_past : (kind : Kind) (slot : Slot_of) (word : ℕ) → (kind ≡ word_kinds.Empty → ⊥) → (kind ≡ word_kinds.Live → ⊥)
    → (kind ≡ word_kinds.Marked → ⊥) → look_at kind slot word ≡ Was_settled
looked_past word_kinds.Empty slot word empty live marked = absurd (empty refl)
looked_past word_kinds.Live slot word empty live marked = absurd (live refl)
looked_past word_kinds.Marked slot word empty live marked = absurd (marked refl)
looked_past word_kinds.Copied slot word empty live marked = refl
looked_past word_kinds.Buried slot word empty live marked = refl
looked_past word_kinds.Closed slot word empty live marked = refl

-- Each answer with which the copy of a slot continues.
module _ {K V S H : Type 0} (eq : K → K → Bool) (hash : S → K → ℕ) (b : Begun K V S) (name : Book) (mode : ResizeMode) (aim : Aim) (chunk : Chunk)
    (valid : IsValidChunk chunk) (log : List (Event K V S)) (h : Copier K V S H) (log' : List (Event K V S)) (h' : Copier K V S H)
    (since : IsPrefix log log') where
  abbrev pub before : Settle → Stop K V S H
  before settle = record { copying = at_slot aim chunk settle; log = log; loaded = h }

  abbrev pub later : Settle → Stop K V S H
  later settle = record { copying = at_slot aim chunk settle; log = log'; loaded = h' }

  abbrev pub past : Stop K V S H
  past = record { copying = past_slot aim chunk; log = log'; loaded = h' }

  abbrev Turns : Stop K V S H → Stop K V S H → Type 0
  Turns s t = IsMoveStep eq hash b name mode s t

  abbrev Slots : (t x : ℕ) → StepKind → (old new found : ℕ) → Type 0
  Slots t x kind old new found = HasTried eq hash b name (Slot t x) (Some kind) (old, new) h.kept h.fresh log h.last found log' h'.last

  module _ (rest : h' ≡ record h { last = h'.last }) where
    -- by the slot's word its pair is copied
    pub finished : (marked found : ℕ) → Slots chunk.cursor.from chunk.at kinds.Finish marked (copied_as marked) found → Turns (before (Finishing marked)) past
    finished marked found tried = record {
      since = since;
      answer = tried_answer found marked;
      answers = told eq hash b name chunk.cursor.from chunk.at (Some kinds.Finish) marked (copied_as marked) log h log' h' found tried rest;
      on = λ initial number. either initial number (found == marked);
      valid = past_standing aim chunk valid;
    }
      where
        either : (initial number : ℕ) (z : Bool)
            → copying_after (at_slot aim chunk (Finishing marked)) mode initial number (if z then Call Exchanged else Call (Found found)) ≡ On
            (past_slot aim chunk)
        either initial number true = past_on aim chunk mode
        either initial number false = past_on aim chunk mode

    -- it is marked
    pub marks : (word found : ℕ) → Slots chunk.cursor.from chunk.at kinds.Mark word (marked_as word) found → found ≡ word
        → Turns (before (Marking word)) (later (Carrying (marked_as word) (Hashing chunk.cursor.to)))
    marks word found tried is = record {
      since = since;
      answer = Call Exchanged;
      answers = won eq hash b name chunk.cursor.from chunk.at (Some kinds.Mark) word (marked_as word) log h log' h' found tried rest is;
      on = λ initial number. refl;
      valid = (valid, tt);
    }

    -- or sealed
    pub closes : (found : ℕ) → Slots chunk.cursor.from chunk.at kinds.Close 0 5 found → found ≡ 0 → Turns (before Closing) (later Shutting)
    closes found tried is = record {
      since = since;
      answer = Call Exchanged;
      answers = won eq hash b name chunk.cursor.from chunk.at (Some kinds.Close) 0 5 log h log' h' found tried rest is;
      on = λ initial number. refl;
      valid = (valid, tt);
    }

    -- the pair was put into a place
    pub places : (marked byte : ℕ) (at : Place) → IsWithin at → (found : ℕ)
        → Slots at.table at.probe.i kinds.Place 0 (live_word (pair_of marked)) found → found ≡ 0
        → Turns (before (Carrying marked (Placing byte at))) (later (Carrying marked (Placed byte at)))
    places marked byte at within found tried is = record {
      since = since;
      answer = Call Exchanged;
      answers = won eq hash b name at.table at.probe.i (Some kinds.Place) 0 (live_word (pair_of marked)) log h log' h' found tried rest is;
      on = λ initial number. refl;
      valid = (valid, within);
    }

    module _ (word : ℕ) where
      -- a place is empty
      pub finds : (marked byte : ℕ) (at : Place) → IsWithin at → IsLoadedFor eq hash b name (Slot at.table at.probe.i) word log' h.last h'.last
          → word ≡ 0 → Turns (before (Carrying marked (Reading_at byte at))) (later (Carrying marked (Placing byte at)))
      finds marked byte at within as_loaded is = record {
        since = since;
        answer = Call (Word word);
        answers = record { word = word; is = refl; as_loaded = as_loaded; rest = rest };
        on = λ initial number. ap (λ (z : ℕ). leads aim mode (settled_to chunk (settled_by marked mode (carries.look byte at mode z)))) is;
        valid = (valid, within);
      }

      module _ (as_loaded : IsLoadedFor eq hash b name (Slot chunk.cursor.from chunk.at) word log' h.last h'.last) where
        looks_by : (kind : Kind) → kind_of word ≡ kind → (next : Settle) → look_at kind (slot_of chunk) word ≡ Settle_on next → IsValidSettle next
            → Turns (before Looking) (later next)
        looks_by kind is next on stands = record {
          since = since;
          answer = Call (Word word);
          answers = record { word = word; is = refl; as_loaded = as_loaded; rest = rest };
          on = λ initial number. ap (λ (z : Kind). leads aim mode (settled_to chunk (look_at z (slot_of chunk) word))) is
              ∙ ap (λ (z : Settled). leads aim mode (settled_to chunk z)) on;
          valid = (valid, stands);
        }

        -- the slot is empty, or has a pair
        pub sees_empty : kind_of word ≡ word_kinds.Empty → Turns (before Looking) (later Closing)
        sees_empty is = looks_by word_kinds.Empty is Closing refl tt

        pub sees_live : kind_of word ≡ word_kinds.Live → Turns (before Looking) (later (Marking word))
        sees_live is = looks_by word_kinds.Live is (Marking word) refl tt

        -- or is migrated
        pub sees_settled : (kind_of word ≡ word_kinds.Empty → ⊥) → (kind_of word ≡ word_kinds.Live → ⊥) → (kind_of word ≡ word_kinds.Marked → ⊥)
            → Turns (before Looking) past
        sees_settled empty live marked = record {
          since = since;
          answer = Call (Word word);
          answers = record { word = word; is = refl; as_loaded = as_loaded; rest = rest };
          on = λ initial number. ap (λ (z : Settled). leads aim mode (settled_to chunk z))
              (looked_past (kind_of word) (slot_of chunk) word empty live marked) ∙ past_on aim chunk mode;
          valid = past_standing aim chunk valid;
        }

  -- a hint was written
  module _ (lawful : IsLawfulLog eq hash b log') (rest : h' ≡ h) where
    pub shuts : Turns (before Shutting) past
    shuts = record {
      since = since;
      answer = Call Ok_done;
      answers = record { is = refl; lawful = lawful; rest = rest };
      on = λ initial number. past_on aim chunk mode;
      valid = past_standing aim chunk valid;
    }

    module _ (marked byte : ℕ) (at : Place) where
      pub notes : (slots : ℕ) → mode ≡ Incremental slots → Turns (before (Carrying marked (Placed byte at))) (later (Finishing marked))
      notes slots is = record {
        since = since;
        answer = Call Ok_done;
        answers = record { is = refl; lawful = lawful; rest = rest };
        on = λ initial number. ap (λ (z : ResizeMode). leads aim mode (settled_to chunk (finishes marked z))) is;
        valid = (valid, tt);
      }

      pub notes_last : mode ≡ Blocking → Turns (before (Carrying marked (Placed byte at))) past
      notes_last is = record {
        since = since;
        answer = Call Ok_done;
        answers = record { is = refl; lawful = lawful; rest = rest };
        on = λ initial number. ap (λ (z : ResizeMode). leads aim mode (settled_to chunk (finishes marked z))) is ∙ past_on aim chunk mode;
        valid = past_standing aim chunk valid;
      }

  -- a hint was loaded
  module _ (marked byte : ℕ) (at : Place) (hint : ℕ) (hinted : IsSlotHint eq hash b at.table at.probe.i hint log') (rest : h' ≡ h) where
    pub hints_at : (next : Carry) → carries.hinted byte at mode hint ≡ Carry_on next → IsValidCarry next
        → Turns (before (Carrying marked (Looking_at byte at))) (later (Carrying marked next))
    hints_at next on stands = record {
      since = since;
      answer = Call (Word hint);
      answers = record { hint = hint; is = refl; hinted = hinted; rest = rest };
      on = λ initial number. ap (λ (z : Carried). leads aim mode (settled_to chunk (settled_by marked mode z))) on;
      valid = (valid, stands);
    }

  -- the size of the next table was read
  pub sizes_next : (marked byte to : ℕ) (size : ℕ × ℕ) → IsSizeOf eq hash b name to log' size → h' ≡ h → IsWithin (first_place byte to size.0 size.1)
      → Turns (before (Carrying marked (Sizing byte to))) (later (Carrying marked (Looking_at byte (first_place byte to size.0 size.1))))
  sizes_next marked byte to size size_of rest within = record {
    since = since;
    answer = Call (Size size.0 size.1);
    answers = record { size = size; is = refl; size_of = size_of; rest = rest };
    on = λ initial number. refl;
    valid = (valid, within);
  }

module _ {K V S H : Type 0} (eq : K → K → Bool) (hash : S → K → ℕ) (b : Begun K V S) (name : Book) (mode : ResizeMode) (aim : Aim) (chunk : Chunk)
    (valid : IsValidChunk chunk) (log : List (Event K V S)) (h h' : Copier K V S H) where
  -- the hash of the pair's key was computed, and the pair is moved
  pub hashes : (marked to byte : ℕ) → Carries eq hash b name h h' byte → h' ≡ record h { kept = h'.kept }
      → IsMoveStep eq hash b name mode (record { copying = at_slot aim chunk (Carrying marked (Hashing to)); log = log; loaded = h })
      (record { copying = at_slot aim chunk (Carrying marked (Sizing byte to)); log = log; loaded = h' })
  hashes marked to byte carried rest = record {
    since = ([], append-nil log);
    answer = Hash byte;
    answers = record { word = byte; is = refl; carries = carried; still = refl; rest = rest };
    on = λ initial number. refl;
    valid = (valid, tt);
  }
