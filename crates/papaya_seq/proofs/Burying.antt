-- A removal on the fast path is a run of its machine.
use Rattle.std.proofs.Common.{◌≡◌, ℕ, ◌==◌, Bool, true, false, MatchBool, Option, List, [], ◌∷◌, ◌++◌, refl, sym, ap, subst, eq-eqb}
use Rattle.std.specs.Prelude.{negsuc}
use denote.Ref.{Bor}
use Rattle.std.specs.Fn.{Mut}
use Rattle.papaya_words.specs.Counter.{added}
use Rattle.papaya_words.specs.Word.{kind_of, pair_of as number_of}
use Rattle.papaya_words.specs.declared.resize_mode.ResizeMode.{ResizeMode}
use Rattle.papaya_words.specs.declared.word.Kind.TheVariants.{Live}
use Rattle.papaya_call.specs.declared.ask.Answer.{Answer}
use Rattle.papaya_call.specs.declared.ask.Answer.TheVariants.{Exchanged, Found as Found_instead, Yes, Ok as Ok_done}
use Rattle.papaya_call.specs.declared.ask.Ask.{Ask}
use Rattle.papaya_call.specs.declared.ask.Ask.TheVariants.{Load, Exchange, LoadHint, WriteHint}
use Rattle.papaya_call.specs.declared.ask.Ask.TheVariants.{SameKey, ShowNone, ShowPair, SizeOf}
use Rattle.papaya_call.specs.declared.ask.Ask.TheVariants.{MakeKey, MakeValue, MakePair, MakePairOf}
use Rattle.papaya_call.specs.declared.ask.Ask.TheVariants.{MakeTable, AddToShard, Done as Ask_done}
use Rattle.papaya_call.specs.declared.ask.At.{At}
use Rattle.papaya_call.specs.declared.ask.At.TheVariants.{Slot}
use Rattle.papaya_call.specs.declared.call.Reply.{Reply}
use Rattle.papaya_call.specs.declared.call.Reply.TheVariants.{Absent, Kept, Removed}
use Rattle.papaya_call.specs.declared.call.Task.TheVariants.{RemoveIf}
use Rattle.papaya_call.specs.declared.search.Place.{Place}
use Rattle.papaya_call.specs.declared.machine.Machine.{Machine as Call_machine}
use Rattle.papaya_call.specs.declared.machine.State.{State}
use Rattle.papaya_call.specs.declared.machine.State.TheVariants.{AtRoot, Showing, Burying, Ended}
use Rattle.papaya_call.specs.declared.remove.Removal.{Removal}
use Rattle.papaya_call.specs.Machine.{after as call_after, ask_of as call_ask, goes, removes, started}
use Rattle.papaya_call.specs.Remove.{grave_word}
use Rattle.papaya_call.specs.declared.chain.ask.Answer.TheVariants as answers
use Rattle.papaya_call.specs.declared.chain.ask.Ask.TheVariants as asks
use Rattle.papaya_call.specs.declared.chain.machine.Machine.{Machine}
use Rattle.papaya_call.specs.ChainMachine.{after}
use Rattle.papaya_core_store.specs.Performs.{Exchanges}
use Rattle.papaya_core_store.specs.Store.{StoreState, pair_of}
use Rattle.papaya_core_store.specs.Tables.{put, word_at}
use Rattle.papaya_seq.specs.Buries.{IsBuried, IsRemovedFrom, StepsTo, itself}
use Rattle.papaya_seq.specs.Looks.{Comes, IsSearchAsk, IsTrueOfStore}
use Rattle.papaya_seq.specs.Map.{MapState}
use Rattle.papaya_seq.specs.Removes.{IsRemovalAnswer, IsShown}
use Rattle.papaya_seq.specs.Searches.{IsRootHit, seen_by}
use Rattle.papaya_seq.specs.declared.search.ProbeHit.{ProbeHit}
use Rattle.papaya_seq.specs.declared.search.ProbeHit.TheVariants as turns
use Rattle.papaya_seq.specs.Writes.{burying, slot_of}
use Rattle.papaya_seq.proofs.Driving.{goes_itself}
use Rattle.papaya_seq.proofs.Exchanging.{exchange_made}
use Rattle.papaya_seq.proofs.RemovalWays.{IsUnderWay, under_way_more}
use Rattle.papaya_seq.proofs.Removing.{answered_call}

module _ {K V S F : Type 0} (g : Mut F (Bor K × (Bor V × Unit {0})) Bool) (matches : K → Bool) where
  -- one run of answers after another
  pub leads_on : (first rest : List Answer) (s : StoreState K V S) (f : F) (m : Machine) (s' : StoreState K V S) (f' : F) (m' : Machine)
      (s'' : StoreState K V S) (f'' : F) (m'' : Machine) → StepsTo g matches first s f m s' f' m' → StepsTo g matches rest s' f' m' s'' f'' m''
      → StepsTo g matches (first ++ rest) s f m s'' f'' m''
  leads_on [] rest s f m s' f' m' s'' f'' m'' (store, closure, machine) more =
      subst (λ x. StepsTo g matches rest x f m s'' f'' m'') store
      (subst (λ x. StepsTo g matches rest s' x m s'' f'' m'') closure (subst (λ x. StepsTo g matches rest s' f' x s'' f'' m'') machine more))
  leads_on (answer ∷ first) rest s f m s' f' m' s'' f'' m'' (middle, later, step, led) more =
      (middle, later, step, leads_on first rest middle later (after m (answers.Call answer)) s' f' m' s'' f'' m'' led more)

  module _ (s : StoreState K V S) (f : F) where
    -- a removal continues with the answers to the search of the root
    searched_answer : (ask : Ask) (answer : Answer) → IsSearchAsk ask → IsTrueOfStore matches s ask answer → IsRemovalAnswer g matches ask s f answer s f
    searched_answer (Load at) answer asked told = (told, refl, refl)
    searched_answer (SameKey n) answer asked told = (told, refl, refl)
    searched_answer (SizeOf n) answer asked told = (told, refl, refl)
    searched_answer (LoadHint t x) answer asked told = (told, refl, refl)
    searched_answer (Exchange at old new) answer asked told = absurd asked
    searched_answer (WriteHint t x hint) answer asked told = absurd asked
    searched_answer ShowNone answer asked told = absurd asked
    searched_answer (ShowPair n) answer asked told = absurd asked
    searched_answer MakeKey answer asked told = absurd asked
    searched_answer MakePair answer asked told = absurd asked
    searched_answer MakeValue answer asked told = absurd asked
    searched_answer (MakePairOf i) answer asked told = absurd asked
    searched_answer (MakeTable slots limit chunks) answer asked told = absurd asked
    searched_answer (AddToShard by) answer asked told = absurd asked
    searched_answer (Ask_done reply) answer asked told = absurd asked

    searched_goes : (m : Call_machine) (answer : Answer) → IsSearchAsk (call_ask m) → after (itself m) (answers.Call answer) ≡ itself (call_after m answer)
    searched_goes m answer asked = goes_itself 0 m answer (λ need e. subst (λ st. IsSearchAsk (call_ask (record m { state = st }))) e asked)
        (λ t e. absurd (subst (λ st. IsSearchAsk (call_ask (record m { state = st }))) e asked))

    comes_leads : (told : List Answer) (m m' : Call_machine) → Comes matches s m told m' → StepsTo g matches told s f (itself m) s f (itself m')
    comes_leads [] m m' is = (refl, refl, ap (λ (x : Call_machine). itself x) is)
    comes_leads (answer ∷ rest) m m' (asked, said, came) = (
      s,
      f,
      record { ask = call_ask m; asked = refl; answered = searched_answer (call_ask m) answer asked said },
      subst (λ x. StepsTo g matches rest s f x s f (itself m')) (sym (searched_goes m answer asked)) (comes_leads rest (call_after m answer) m' came),
    )

    module _ (removal : Removal) (m : Call_machine) where
      -- the removal in this state
      abbrev stands_at : State → Machine
      stands_at state = itself (record m { task = RemoveIf; state = state })

      -- its closure kept the pair
      pub kept : (f' : F) → IsShown g (pair_of s (number_of removal.word)) f (Yes false) f' → (n : ℕ) → n ≡ number_of removal.word
          → IsRemovedFrom g matches s f (stands_at (Showing removal)) (Kept n) s f'
      kept f' shown n n_is = record {
        answers = Yes false ∷ [];
        end = stands_at (Ended (Kept (number_of removal.word)));
        leads = (s, f', record { ask = ShowPair (number_of removal.word); asked = refl; answered = (shown, refl) }, (refl, refl, refl));
        replied = ap (λ z. asks.Call (Ask_done (Kept z))) (sym n_is);
      }

      -- or it agreed, and the pair was deleted and counted out
      pub removed : (f' : F) → IsShown g (pair_of s (number_of removal.word)) f (Yes true) f' → word_at s.words (slot_of removal.place) ≡ removal.word
          → (n : ℕ) → n ≡ number_of removal.word → IsRemovedFrom g matches s f (stands_at (Showing removal)) (Removed n) (burying s removal) f'
      removed f' shown stands n n_is = record {
        answers = Yes true ∷ Exchanged ∷ Ok_done ∷ [];
        end = stands_at (Ended (Removed (number_of removal.word)));
        leads = (
          s,
          f',
          record { ask = ShowPair (number_of removal.word); asked = refl; answered = (shown, refl) },
          (
            record s { words = put s.words (slot_of removal.place) (grave_word removal.word) },
            f',
            record {
              ask = call_ask (record m { task = RemoveIf; state = Burying removal });
              asked = refl;
              answered = (exchange_made s (slot_of removal.place) removal.word (grave_word removal.word) stands, refl);
            },
            (burying s removal, f', record { ask = AddToShard (negsuc 0); asked = refl; answered = (refl, (0, refl), refl) }, (refl, refl, refl)),
          ),
        );
        replied = ap (λ z. asks.Call (Ask_done (Removed z))) (sym n_is);
      }

    -- The reply of a removal whose search of the root found this.
    module _ (hashed : ℕ) (mode : ResizeMode) (initial : ℕ) (limit : Option ℕ) where
      abbrev removing : State → Machine
      removing state = itself (record (started RemoveIf hashed mode initial limit) { state = state })

      root_led : (turn : ProbeHit) (state : State) → IsRootHit matches s hashed turn
          → goes (started RemoveIf hashed mode initial limit) (seen_by turn) ≡ state → (reply : Reply) (s' : StoreState K V S) (f' : F)
          → IsRemovedFrom g matches s f (removing state) reply s' f' → IsRemovedFrom g matches s f (removing AtRoot) reply s' f'
      root_led turn state root is reply s' f' done =
          let begun : Call_machine = started RemoveIf hashed mode initial limit in
          let came = root.sees begun in
          let led : Comes matches s begun came.0 (record begun { state = state }) =
          subst (λ (st : State). Comes matches s begun came.0 (record begun { state = st })) is came.1 in
          record {
            answers = came.0 ++ done.answers;
            end = done.end;
            leads = leads_on came.0 done.answers s f (removing AtRoot) s f (removing state) s' f' done.end
                (comes_leads came.0 begun (record begun { state = state }) led) done.leads;
            replied = done.replied;
          }

      pub found_none : (at : Place) → IsRootHit matches s hashed (turns.Empty at) → IsRemovedFrom g matches s f (removing AtRoot) Absent s f
      found_none at root = root_led (turns.Empty at) (Ended Absent) root refl Absent s f
          (record { answers = []; end = removing (Ended Absent); leads = (refl, refl, refl); replied = refl })

      pub found_it : (at : Place) (word : ℕ) → kind_of word ≡ Live → IsRootHit matches s hashed (turns.Here at word)
          → (reply : Reply) (s' : StoreState K V S) (f' : F) → IsBuried g matches (record { place = at; word = word }) s f reply s' f'
          → IsRemovedFrom g matches s f (removing AtRoot) reply s' f'
      found_it at word live root reply s' f' buried = root_led (turns.Here at word) (Showing (record { place = at; word = word })) root
          (ap (λ kind. removes kind at word) live) reply s' f' (buried (started RemoveIf hashed mode initial limit))

-- a removal continues after each answer
pub leads_under_way : {K V S F : Type 0} (g : Mut F (Bor K × (Bor V × Unit {0})) Bool) (eq : K → K → Bool) (hash : S → K → ℕ) (matches : K → Bool)
    (hashed : ℕ) (map : MapState K V S) (agrees : F) (told : List Answer) (s : StoreState K V S) (f : F) (m : Machine) (s' : StoreState K V S)
    (f' : F) (m' : Machine) → StepsTo g matches told s f m s' f' m' → IsUnderWay g eq hash matches hashed map agrees s f m
    → IsUnderWay g eq hash matches hashed map agrees s' f' m'
leads_under_way g eq hash matches hashed map agrees [] s f m s' f' m' (store, closure, machine) now =
    subst (λ x. IsUnderWay g eq hash matches hashed map agrees x f' m') (sym store)
    (subst (λ x. IsUnderWay g eq hash matches hashed map agrees s x m') (sym closure)
    (subst (IsUnderWay g eq hash matches hashed map agrees s f) (sym machine) now))
leads_under_way g eq hash matches hashed map agrees (answer ∷ rest) s f m s' f' m' (middle, later, step, more) now =
    leads_under_way g eq hash matches hashed map agrees rest middle later (after m (answers.Call answer)) s' f' m' more
    (under_way_more g eq hash matches hashed map agrees s f m now (answers.Call answer) middle later
    (answered_call g eq hash matches m step.ask step.asked s f answer middle later step.answered (answers.Call answer) middle later refl refl refl))
