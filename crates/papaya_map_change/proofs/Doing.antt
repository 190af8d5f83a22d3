-- A changing call exchanges a slot at most once, and changes the map by this.
use Rattle.std.proofs.Common.{◌≡◌, inl, inr, ℕ, ◌==◌, Bool, true, false, cond, MatchBool, is_some}
use Rattle.std.proofs.Common.{Option, None, Some, List, [], ◌∷◌, ◌++◌, map, append-nil, refl, sym}
use Rattle.std.proofs.Common.{ap, ◌∙◌, subst}
use Rattle.std.proofs.lemmas.List.{map-append}
use Rattle.papaya_call.specs.declared.ask.Answer.{Answer}
use Rattle.papaya_call.specs.declared.ask.Answer.TheVariants.{Word as Word_read, Exchanged, Found as Found_instead, Yes, Op, Made as Made_number, Ok as Ok_done}
use Rattle.papaya_call.specs.declared.ask.Ask.{Ask}
use Rattle.papaya_call.specs.declared.ask.Ask.TheVariants.{Load, Exchange, LoadHint, WriteHint}
use Rattle.papaya_call.specs.declared.ask.Ask.TheVariants.{SameKey, ShowNone, ShowPair, SizeOf}
use Rattle.papaya_call.specs.declared.ask.Ask.TheVariants.{MakeKey, MakeValue, MakePair, MakePairOf}
use Rattle.papaya_call.specs.declared.ask.Ask.TheVariants.{MakeTable, AddToShard, Done}
use Rattle.papaya_call.specs.declared.ask.At.TheVariants.{Root, Next, Aborted, Done as Done_word, Slot, Made as Made_word}
use Rattle.papaya_call.specs.declared.ask.OpKind.{OpKind}
use Rattle.papaya_call.specs.declared.ask.OpKind.TheVariants as ops
use Rattle.papaya_call.specs.declared.call.Reply.{Reply}
use Rattle.papaya_call.specs.declared.call.Reply.TheVariants.{Replaced}
use Rattle.papaya_call.specs.declared.call.Task.{Task}
use Rattle.papaya_call.specs.declared.call.Task.TheVariants.{Get, Insert, RemoveIf, Compute}
use Rattle.papaya_call.specs.declared.compute.Gap.{Gap}
use Rattle.papaya_call.specs.declared.remove.Removal.{Removal}
use Rattle.papaya_call.specs.declared.search.Search.TheVariants.{Sizing, Looking, Reading, Comparing}
use Rattle.papaya_call.specs.declared.write.Claimed.{Claimed}
use Rattle.papaya_call.specs.declared.made.Made.{Made}
use Rattle.papaya_call.specs.declared.write.Write.{Write}
use Rattle.papaya_call.specs.declared.machine.Machine.{Machine}
use Rattle.papaya_call.specs.declared.chain.ask.Answer.TheVariants as answers
use Rattle.papaya_call.specs.declared.chain.ask.Ask.TheVariants as asked
use Rattle.papaya_call.specs.declared.chain.machine.Machine.{Machine as Chain}
use Rattle.papaya_call.specs.declared.chain.machine.Phase.TheVariants.{Calling}
use Rattle.papaya_call.specs.ChainMachine as chains
use Rattle.papaya_call_law.specs.ChainRelies.{left_by}
use Rattle.papaya_call_law.proofs.Names.{call_asks}
use Rattle.papaya_call_law.proofs.Replies.{aside_asks}
use Rattle.papaya_call.specs.declared.machine.State.{State}
use Rattle.papaya_call.specs.declared.machine.State.TheVariants.{AtRoot, Making, Opening, Searching}
use Rattle.papaya_call.specs.declared.machine.State.TheVariants.{Writing, Offering, Showing}
use Rattle.papaya_call.specs.declared.machine.State.TheVariants.{Pairing, Putting, Burying}
use Rattle.papaya_call.specs.declared.machine.State.TheVariants.{Counting, Noting, Uncounting}
use Rattle.papaya_call.specs.declared.machine.State.TheVariants.{Leaving, Growing, Ended}
use Rattle.papaya_call.specs.declared.compute.Purpose.{Purpose}
use Rattle.papaya_call.specs.Compute.{in_place_of, offered}
use Rattle.papaya_call.specs.Machine.{after, ask_of, asks, decided, judged}
use Rattle.papaya_call.specs.Write.{claimed_by, served_ask, serves}
use Rattle.papaya_call.specs.Search.{look as look_seen, at_word as search_loaded, at_yes as search_compared}
use Rattle.papaya_words_law.specs.Exchange.{Exchange as Law_exchange}
use Rattle.papaya_words_law.specs.Grows.{exchanges}
use Rattle.papaya_call_law.specs.Followed.{IsCounting}
use Rattle.papaya_call_law.specs.Relies.{change_in, change_of_reply}
use Rattle.papaya_call_law.proofs.Followed.{counts_after}
use Rattle.papaya_call_law.proofs.Makings.{HoldsOfPairAsks, IsPairAsk, IsWriteAsk, pair_holds}
use Rattle.papaya_call_law.proofs.Makings.{pairing_asks, pairing_leads, unserved_leads, write_asks}
use Rattle.papaya_call_law.proofs.Makings.{write_then, write_then_is}
use Rattle.papaya_call_law.proofs.Leads.{HoldsOfLeads, beaten_leads, goes_leads, left_leads, provides_leads, root_leads}
use Rattle.papaya_map_book.specs.declared.keyed.Keyed as keyed
use Rattle.papaya_map_book.specs.declared.rule.entry.Event.{Event}
use Rattle.papaya_map_book.specs.declared.rule.entry.Step.{Step}
use Rattle.papaya_map_book.specs.declared.window.Window.{Window}
use Rattle.papaya_map_book.specs.Logs.{Stored, entry_of, exchange_of, exchanges_of, steps_of}
use Rattle.papaya_map_book.specs.Own.{last_if, last_in}
use Rattle.papaya_map_book.specs.Windows.{Does}
use Rattle.papaya_map_lookup.specs.Drivers.{own, past}
use Rattle.papaya_map_lookup.specs.History.{Change, Makes, changes_by, changes_of, history_of, key_of}
use Rattle.papaya_map_lookup.proofs.Histories.{changes-append}
use Rattle.papaya_map_change.specs.Changing.{HasChanged}
use Rattle.papaya_map_change.specs.Doing.{Answers, exchanged, has_changed, was_made}
use Rattle.papaya_map_change.proofs.StepsOfOwn.{own_went}

-- nothing has been changed yet
abbrev IsUnchanged : State → Type 0
IsUnchanged s = is_some (change_in s) ≡ false

leads_unchanged : HoldsOfLeads IsUnchanged
leads_unchanged = record {
  ended_absent = refl;
  ended_found = λ n. refl;
  ended_occupied = λ n. refl;
  making = refl;
  searching = λ search. refl;
  writing = λ write. refl;
  offering = λ gap. refl;
  showing = λ removal. refl;
  pairing = λ purpose. refl;
  putting = λ put. refl;
  burying = λ removal. refl;
  leaving = λ t. refl;
  growing = λ t. refl;
}

judged_unchanged : (task : Task) (removal : Removal) (agrees : Bool) → IsUnchanged (judged task removal agrees)
judged_unchanged Get removal agrees = refl
judged_unchanged (Insert replace) removal agrees = refl
judged_unchanged RemoveIf removal true = refl
judged_unchanged RemoveIf removal false = refl
judged_unchanged Compute removal agrees = refl

decided_unchanged : (task : Task) (removal : Removal) (kind : OpKind) → IsUnchanged (decided task removal kind)
decided_unchanged Get removal kind = refl
decided_unchanged (Insert replace) removal kind = refl
decided_unchanged RemoveIf removal kind = refl
decided_unchanged Compute removal ops.Insert = refl
decided_unchanged Compute removal ops.Remove = refl
decided_unchanged Compute removal (ops.Abort t) = refl

offered_unchanged : (gap : Gap) (kind : OpKind) → IsUnchanged (offered gap kind)
offered_unchanged gap ops.Insert = refl
offered_unchanged gap ops.Remove = refl
offered_unchanged gap (ops.Abort t) = refl

-- a pair that was written is in the map
written_changed : (b : Bool) (claimed : Claimed) (old n : ℕ) → is_some (change_in (cond b (Counting claimed) (Ended (Replaced old n)))) ≡ true
written_changed true claimed old n = refl
written_changed false claimed old n = refl

-- whether the map is changed after an exchange that was made, or after something else
abbrev Moves : Bool → (before later : Bool) → Type 0
Moves made before later = MatchBool made ((before ≡ false) × (later ≡ true)) (later ≡ before)

module _ (m : Machine) where
  abbrev Step_by : Made → State → Answer → Type 0
  Step_by made s answer = Moves (exchanged (asks made m.hash s) (Some answer)) (is_some (change_in s))
      (is_some (change_in (after (record m { made = made; state = s }) answer).state))

  -- the asks for a pair exchange no slot
  none_exchanged : (answer : Answer) → HoldsOfPairAsks (λ ask. exchanged ask (Some answer) ≡ false)
  none_exchanged answer = record { loads = refl; takes = λ count. refl; key = refl; value = refl; pair = refl; pair_of = λ n. refl }

  -- an insertion that writes, by the pair that it uses
  abbrev Writes_by : Option ℕ → Made → Write → Answer → Type 0
  Writes_by served made write answer = Moves (exchanged (served_ask served write made) (Some answer)) false
      (is_some (change_in (write_then m served made write answer)))

  writing_by : (served : Option ℕ) (made : Made) (write : Write) (answer : Answer) → Writes_by served made write answer
  writing_by None made write answer =
      subst (λ (b : Bool). Moves b false (is_some (change_in (write_then m None made write answer))))
      (sym (pair_holds (λ ask. exchanged ask (Some answer) ≡ false) (none_exchanged answer) made write.old))
      (unserved_leads m IsUnchanged (λ refused. refl) made write refl answer)
  writing_by (Some n) made write (Found_instead word) = goes_leads IsUnchanged leads_unchanged m.task m.mode m.remembered (look_seen write.place word)
  writing_by (Some n) made write Exchanged = (refl, written_changed (write.old == 0) (claimed_by write n) (Rattle.papaya_words.specs.Word.pair_of write.old) n)
  writing_by (Some n) made write answer = refl

  writing_step : (made : Made) (write : Write) (answer : Answer) → Step_by made (Writing write) answer
  writing_step made write answer =
      subst (λ (s : State). Moves (exchanged (asks made m.hash (Writing write)) (Some answer)) false (is_some (change_in s)))
      (sym (write_then_is m made write answer)) (writing_by (serves made write) made write answer)

  -- a compute that makes a pair
  pairing_step : (made : Made) (purpose : Purpose) (answer : Answer) → Step_by made (Pairing purpose) answer
  pairing_step made purpose answer =
      subst (λ (b : Bool). Moves b false (is_some (change_in (after (record m { made = made; state = Pairing purpose }) answer).state)))
      (sym (pair_holds (λ ask. exchanged ask (Some answer) ≡ false) (none_exchanged answer) made (in_place_of purpose)))
      (pairing_leads m IsUnchanged (λ refused. refl) made purpose refl (λ n. provides_leads IsUnchanged leads_unchanged purpose n) answer)

  step : (made : Made) (s : State) (answer : Answer) → Step_by made s answer
  step made AtRoot (Word_read word) = root_leads IsUnchanged leads_unchanged m.task m.remembered.fill word
  step made AtRoot answer = refl
  step made Making (Made_number n) = refl
  step made Making answer = refl
  step made (Opening t) Exchanged = refl
  step made (Opening t) answer = refl
  step made (Searching (Sizing t)) (Word_read word) = goes_leads IsUnchanged leads_unchanged m.task m.mode m.remembered (search_loaded (Sizing t) m.hash word)
  step made (Searching (Sizing t)) (Yes same) = goes_leads IsUnchanged leads_unchanged m.task m.mode m.remembered (search_compared (Sizing t) same)
  step made (Searching (Sizing t)) answer = refl
  step made (Searching (Looking at)) (Word_read word) = goes_leads IsUnchanged leads_unchanged m.task m.mode m.remembered
      (search_loaded (Looking at) m.hash word)
  step made (Searching (Looking at)) (Yes same) = goes_leads IsUnchanged leads_unchanged m.task m.mode m.remembered (search_compared (Looking at) same)
  step made (Searching (Looking at)) answer = refl
  step made (Searching (Reading at)) (Word_read word) = goes_leads IsUnchanged leads_unchanged m.task m.mode m.remembered
      (search_loaded (Reading at) m.hash word)
  step made (Searching (Reading at)) (Yes same) = goes_leads IsUnchanged leads_unchanged m.task m.mode m.remembered (search_compared (Reading at) same)
  step made (Searching (Reading at)) answer = refl
  step made (Searching (Comparing at by)) (Word_read word) = goes_leads IsUnchanged leads_unchanged m.task m.mode m.remembered
      (search_loaded (Comparing at by) m.hash word)
  step made (Searching (Comparing at by)) (Yes same) = goes_leads IsUnchanged leads_unchanged m.task m.mode m.remembered
      (search_compared (Comparing at by) same)
  step made (Searching (Comparing at by)) answer = refl
  step made (Writing write) answer = writing_step made write answer
  step made (Offering gap) (Op kind) = offered_unchanged gap kind
  step made (Offering gap) answer = refl
  step made (Showing removal) (Yes agrees) = judged_unchanged m.task removal agrees
  step made (Showing removal) (Op kind) = decided_unchanged m.task removal kind
  step made (Showing removal) answer = refl
  step made (Pairing purpose) answer = pairing_step made purpose answer
  step made (Putting put) (Found_instead word) = goes_leads IsUnchanged leads_unchanged m.task m.mode m.remembered (look_seen put.write.place word)
  step made (Putting put) Exchanged = (
    refl,
    written_changed (put.write.old == 0) (claimed_by put.write put.pair)
        (Rattle.papaya_words.specs.Word.pair_of put.write.old) put.pair,
  )
  step made (Putting put) answer = refl
  step made (Burying removal) (Found_instead word) = beaten_leads IsUnchanged leads_unchanged (record m { made = made; state = Burying removal }) removal word
  step made (Burying removal) Exchanged = (refl, refl)
  step made (Burying removal) answer = refl
  step made (Counting n) Ok_done = refl
  step made (Noting n) Ok_done = refl
  step made (Counting n) answer = refl
  step made (Noting n) answer = refl
  step made (Uncounting n) Ok_done = refl
  step made (Uncounting n) answer = refl
  step made (Leaving t) (Word_read word) = left_leads IsUnchanged leads_unchanged m.task m.remembered.fill t word
  step made (Leaving t) answer = refl
  step made (Growing t) (Word_read word) = refl
  step made (Growing t) answer = refl
  step made (Ended reply) Ok_done = refl
  step made (Ended reply) answer = refl

-- a call that is set aside has changed nothing
pub left_unchanged : (s : State) (t : ℕ) → left_by s ≡ Some t → is_some (change_in s) ≡ false
left_unchanged (Leaving u) t e = refl
left_unchanged (Growing need) t e = refl
left_unchanged s t e = absurd cc

-- after an answer to the call itself
moved : (m : Chain) → m.phase ≡ Calling → (answer : Answer)
    → Moves (exchanged (ask_of m.call) (Some answer)) (has_changed m) (has_changed (chains.after m (answers.Call answer)))
moved m calling answer = elim (own_went m calling answer) [
  | inl h ↦ subst (λ (z : Machine). Moves (exchanged (ask_of m.call) (Some answer)) (has_changed m) (is_some (change_in z.state))) (sym h.0)
      (step m.call m.call.made m.call.state answer)
  | inr (inl h) ↦
      subst (λ (a : Ask). Moves (exchanged a (Some answer)) (has_changed m) (has_changed (chains.after m (answers.Call answer))))
      (sym (aside_asks m.call.made m.call.hash m.call.state h.0 h.1))
      (ap (λ (z : Machine). is_some (change_in z.state)) h.2)
  | inr (inr h) ↦
      subst (λ (a : Ask). Moves (exchanged a (Some answer)) (has_changed m) (has_changed (chains.after m (answers.Call answer))))
      (sym (aside_asks m.call.made m.call.hash m.call.state h.0 h.2))
      (ap (λ (z : Machine). is_some (change_in z.state)) h.5 ∙ sym (left_unchanged m.call.state h.0 h.2))
]

some_then : {X Goal : Type 0} (o : Option X) → is_some o ≡ true → ((x : X) → o ≡ Some x → Goal) → Goal
some_then None e f = absurd (cc e)
some_then (Some x) e f = f x refl

-- a call that has changed the map only counts, and writes a hint
counting : (m : Chain) → has_changed m ≡ true → IsCounting (ask_of m.call)
counting m e = some_then (change_in m.call.state) e (λ change is. counts_after m.call change is)

module _ {X : Type 0} where
  joined : (xs ys zs l l' : List X) (before made later : Bool) → ys ≡ xs ++ last_if before l → zs ≡ ys ++ last_if made l' → Moves made before later
      → (before ≡ true → l' ≡ l) → zs ≡ xs ++ last_if later l'
  joined xs ys zs l l' before true later p q mv same = q
      ∙ (ap (λ (z : List X). z ++ last_in l') (p ∙ (ap (λ (b : Bool). xs ++ last_if b l) mv.0 ∙ append-nil xs))
      ∙ ap (λ (b : Bool). xs ++ last_if b l') (sym mv.1))
  joined xs ys zs l l' true false later p q mv same = q
      ∙ (append-nil ys ∙ (p ∙ (ap (λ (z : List X). xs ++ last_in z) (sym (same refl)) ∙ ap (λ (b : Bool). xs ++ last_if b l') (sym mv))))
  joined xs ys zs l l' false false later p q mv same = q ∙ (append-nil ys ∙ (p ∙ ap (λ (b : Bool). xs ++ last_if b l') (sym mv)))

  last_snoc : (xs : List X) (x : X) → last_in (xs ++ x ∷ []) ≡ x ∷ []
  last_snoc [] x = refl
  last_snoc (y ∷ []) x = refl
  last_snoc (y ∷ (z ∷ zs)) x = last_snoc (z ∷ zs) x

last_map : {X Y : Type 0} (f : X → Y) (xs : List X) → map f (last_in xs) ≡ last_in (map f xs)
last_map f [] = refl
last_map f (x ∷ []) = refl
last_map f (x ∷ (y ∷ ys)) = last_map f (y ∷ ys)

-- the ask is not for an exchange of a slot, a count or a hint to write
abbrev pub IsIdle : Ask → Type 0
IsIdle (Exchange (Slot t x) old new) = ⊥
IsIdle (WriteHint t x hint) = ⊥
IsIdle (AddToShard by) = ⊥
IsIdle (Done reply) = ⊥
IsIdle _ = Unit {0}

idle_made : (ask : Ask) → IsIdle ask → (answer : Option Answer) → exchanged ask answer ≡ false
idle_made (Load at) i answer = refl
idle_made (Exchange Root old new) i answer = refl
idle_made (Exchange (Next t) old new) i answer = refl
idle_made (Exchange (Aborted t) old new) i answer = refl
idle_made (Exchange (Done_word t c) old new) i answer = refl
idle_made (Exchange (Slot t x) old new) i answer = absurd i
idle_made (Exchange Made_word old new) i answer = refl
idle_made (LoadHint t x) i answer = refl
idle_made (WriteHint t x hint) i answer = absurd i
idle_made (SameKey n) i answer = refl
idle_made ShowNone i answer = refl
idle_made (ShowPair n) i answer = refl
idle_made (SizeOf t) i answer = refl
idle_made MakeKey i answer = refl
idle_made MakeValue i answer = refl
idle_made MakePair i answer = refl
idle_made (MakePairOf n) i answer = refl
idle_made (MakeTable slots limit chunks) i answer = refl
idle_made (AddToShard by) i answer = absurd i
idle_made (Done reply) i answer = absurd i

idle_busy : (ask : Ask) → IsIdle ask → IsCounting ask → ⊥
idle_busy (AddToShard by) i counts = i
idle_busy (WriteHint t x hint) i counts = i
idle_busy (Done reply) i counts = i
idle_busy (Load at) i counts = counts
idle_busy (Exchange Root old new) i counts = counts
idle_busy (Exchange (Next t) old new) i counts = counts
idle_busy (Exchange (Aborted t) old new) i counts = counts
idle_busy (Exchange (Done_word t c) old new) i counts = counts
idle_busy (Exchange (Slot t x) old new) i counts = counts
idle_busy (Exchange Made_word old new) i counts = counts
idle_busy (LoadHint t x) i counts = counts
idle_busy (SameKey n) i counts = counts
idle_busy ShowNone i counts = counts
idle_busy (ShowPair n) i counts = counts
idle_busy (SizeOf t) i counts = counts
idle_busy MakeKey i counts = counts
idle_busy MakeValue i counts = counts
idle_busy MakePair i counts = counts
idle_busy (MakePairOf n) i counts = counts
idle_busy (MakeTable slots limit chunks) i counts = counts

unanswered : (ask : Ask) → exchanged ask None ≡ false
unanswered (Exchange (Slot t x) old new) = refl
unanswered (Exchange Made_word old new) = refl
unanswered (Exchange Root old new) = refl
unanswered (Exchange (Next t) old new) = refl
unanswered (Exchange (Aborted t) old new) = refl
unanswered (Exchange (Done_word t c) old new) = refl
unanswered (Load at) = refl
unanswered (LoadHint t x) = refl
unanswered (WriteHint t x hint) = refl
unanswered (SameKey n) = refl
unanswered ShowNone = refl
unanswered (ShowPair n) = refl
unanswered (SizeOf t) = refl
unanswered MakeKey = refl
unanswered MakeValue = refl
unanswered MakePair = refl
unanswered (MakePairOf n) = refl
unanswered (MakeTable slots limit chunks) = refl
unanswered (AddToShard by) = refl
unanswered (Done reply) = refl

module _ {K V S H : Type 0} {d : keyed.Ghosts S K H} where
  -- nothing was done if the list of own steps is the same
  pub idles : (w w' : Window K V S H d) → w'.own ≡ w.own → Does false w w'
  idles w w' e = ap (λ o. o.done) e ∙ sym (append-nil w.own.done)

  pub idle : (ask asked : Ask) → ask ≡ asked → IsIdle ask → (answer : Option Answer) (w w' : Window K V S H d) → w'.own ≡ w.own → Answers asked answer w w'
  idle ask asked e i answer w w' same = subst (λ (a : Ask). Answers a answer w w') e
      (record { does = rw (idle_made ask i answer) (idles w w' same); still = λ counts. absurd (idle_busy ask i counts) })

  -- if the window is unchanged
  pub left_alone : (ask : Ask) → IsCounting ask → (asked : Ask) → ask ≡ asked → (answer : Option Answer) (w : Window K V S H d) → Answers asked answer w w
  left_alone (AddToShard by) counts asked e answer w = subst (λ (a : Ask). Answers a answer w w) e (record { does = idles w w refl; still = λ counts. refl })
  left_alone (WriteHint t x hint) counts asked e answer w = subst (λ (a : Ask). Answers a answer w w) e
      (record { does = idles w w refl; still = λ counts. refl })
  left_alone (Done reply) counts asked e answer w = subst (λ (a : Ask). Answers a answer w w) e (record { does = idles w w refl; still = λ counts. refl })
  left_alone _ counts asked e answer w = absurd counts

  -- An exchange was attempted; the call is notified if it was made.
  pub tried : (b : Bool) (answer : Answer) (P Q : Type 0) (found : ℕ) → MatchBool b ((answer ≡ Exchanged) × P) ((answer ≡ Found_instead found) × Q)
      → (w w' : Window K V S H d) → Does b w w' → Does (was_made answer) w w'
  tried true answer P Q found h w w' does = rw h.0 does
  tried false answer P Q found h w w' does = rw h.0 does

  -- the own steps of the call continue
  pub does_on : (m : Chain) → m.phase ≡ Calling → (answer : Answer) (a w w' : Window K V S H d) → Does (has_changed m) a w
      → Answers (ask_of m.call) (Some answer) w w' → Does (has_changed (chains.after m (answers.Call answer))) a w'
  does_on m calling answer a w w' h h' =
      joined a.own.done w.own.done w'.own.done (steps_of w.sight.log) (steps_of w'.sight.log) (has_changed m)
      (exchanged (ask_of m.call) (Some answer)) (has_changed (chains.after m (answers.Call answer))) h h'.does (moved m calling answer)
      (λ e. ap steps_of (h'.still (counting m e)))

  -- and are the same if there is no answer
  pub does_still : (m : Chain) (a w w' : Window K V S H d) → Does (has_changed m) a w → Answers (ask_of m.call) None w w' → Does (has_changed m) a w'
  does_still m a w w' h h' =
      joined a.own.done w.own.done w'.own.done (steps_of w.sight.log) (steps_of w'.sight.log) (has_changed m) false (has_changed m) h
      (subst (λ (b : Bool). Does b w w') (unanswered (ask_of m.call)) h'.does) refl
      (λ e. ap steps_of (h'.still (counting m e)))

-- the exchanges of a log are those of its steps
exchanges_are : {K V : Type 0} (es : List (Step K V)) → exchanges (map entry_of es) ≡ map exchange_of es
exchanges_are [] = refl
exchanges_are (e ∷ es) = ap (λ (xs : List (Law_exchange (Stored _ _))). exchange_of e ∷ xs) (exchanges_are es)

module _ {K V S : Type 0} (eq : K → K → Bool) (k : Option K) (begun log : List (Event K V S)) (taken put : Option (Stored K V))
    (change : Option ℕ × Option ℕ) (h : HasChanged eq k begun log taken put change) where
  abbrev made : Change K (Stored K V)
  made = record { class = h.class; taken = taken; put = put }

  -- the last exchange of the log makes the call's change
  last_made : changes_by (last_in (steps_of log)) ≡ made ∷ []
  last_made =
      let last : map exchange_of (last_in (steps_of log)) ≡ h.by ∷ [] = last_map exchange_of (steps_of log)
      ∙ (ap last_in (sym (exchanges_are (steps_of log)) ∙ h.is) ∙ last_snoc (exchanges_of h.before) h.by) in
      ap (changes_of key_of) last ∙ (append-nil _ ∙ h.change_is)

  -- and it is the last one of the history
  last_history : last_in (history_of log) ≡ made ∷ []
  last_history =
      ap (λ es. last_in (changes_of key_of es)) h.is
      ∙ (ap last_in (changes-append key_of (exchanges_of h.before) (h.by ∷ [])
      ∙ ap (λ (cs : List (Change K (Stored K V))). history_of h.before ++ cs) (append-nil _ ∙ h.change_is)) ∙ last_snoc (history_of h.before) made)

  pub same_last : changes_by (last_in (steps_of log)) ≡ last_in (history_of log)
  same_last = last_made ∙ sym last_history

changes_split : {K V : Type 0} (xs ys : List (Step K V)) → changes_by (xs ++ ys) ≡ changes_by xs ++ changes_by ys
changes_split xs ys = ap (changes_of key_of) (map-append exchange_of xs ys) ∙ changes-append key_of (map exchange_of xs) (map exchange_of ys)

module _ {K V S H : Type 0} {d : keyed.Ghosts S K H} (eq : K → K → Bool) (k : Option K) (begun : List (Event K V S)) (taken put : Option (Stored K V)) where
  makes_as : (o : Option (Option ℕ × Option ℕ)) (a w : Window K V S H d)
      → ((change : Option ℕ × Option ℕ) → o ≡ Some change → HasChanged eq k begun w.sight.log taken put change) → Does (is_some o) a w
      → Makes (is_some o) (own a) (own w) (past w)
  makes_as None a w h does = ap changes_by does ∙ changes_split a.own.done []
  makes_as (Some change) a w h does = ap changes_by does
      ∙ (changes_split a.own.done (last_in (steps_of w.sight.log))
      ∙ ap (λ (cs : List (Change K (Stored K V))). own a ++ cs) (same_last eq k begun w.sight.log taken put change (h change refl)))

  -- the call's own steps are its change
  pub makes : (m : Chain) (a w : Window K V S H d)
      → ((change : Option ℕ × Option ℕ) → change_in m.call.state ≡ Some change → HasChanged eq k begun w.sight.log taken put change)
      → Does (has_changed m) a w → Makes (has_changed m) (own a) (own w) (past w)
  makes m a w h does = makes_as (change_in m.call.state) a w h does

-- the change of a call with this reply
replied_in : (made : Made) (hash : ℕ) (s : State) (reply : Reply) → asks made hash s ≡ Done reply → change_in s ≡ change_of_reply reply
replied_in made hash AtRoot reply e = absurd (cc e)
replied_in made hash Making reply e = absurd (cc e)
replied_in made hash (Opening t) reply e = absurd (cc e)
replied_in made hash (Searching (Sizing t)) reply e = absurd (cc e)
replied_in made hash (Searching (Looking at)) reply e = absurd (cc e)
replied_in made hash (Searching (Reading at)) reply e = absurd (cc e)
replied_in made hash (Searching (Comparing at word)) reply e = absurd (cc e)
replied_in made hash (Writing write) reply e = absurd (subst IsWriteAsk e (write_asks made write))
replied_in made hash (Offering gap) reply e = absurd (cc e)
replied_in made hash (Showing removal) reply e = absurd (cc e)
replied_in made hash (Pairing purpose) reply e = absurd (subst IsPairAsk e (pairing_asks made purpose))
replied_in made hash (Putting put) reply e = absurd (cc e)
replied_in made hash (Burying removal) reply e = absurd (cc e)
replied_in made hash (Counting n) reply e = absurd (cc e)
replied_in made hash (Noting n) reply e = absurd (cc e)
replied_in made hash (Uncounting n) reply e = absurd (cc e)
replied_in made hash (Leaving t) reply e = absurd (cc e)
replied_in made hash (Growing t) reply e = absurd (cc e)
replied_in made hash (Ended given) reply e = let same : given ≡ reply = cc e in ap change_of_reply same

pub replied : (m : Chain) (reply : Reply) → chains.ask_of m ≡ asked.Call (Done reply) → has_changed m ≡ is_some (change_of_reply reply)
replied m reply e = ap is_some (replied_in m.call.made m.call.hash m.call.state reply (call_asks m (Done reply) e).1)
