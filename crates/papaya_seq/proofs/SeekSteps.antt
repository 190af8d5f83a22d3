-- After an answer a removal that meets no pair is still in order, and nearer its end.
use Rattle.std.proofs.Common.{◌≡◌, ⊎_elim, inl, inr, ℕ, ◌^◌, ◌<◌, Bool, false, Option, None, Some}
use Rattle.std.proofs.Common.{List, [], ◌++◌, append_assoc, refl, sym, ◌∙◌, ap, subst, ◌⊎◌, suc}
use Rattle.std.proofs.Common.{◌+◌, ◌-◌, ◌==◌, ◌≤◌, true, ◌∷◌, length, arith, eqb-true}
use Rattle.std.proofs.Common.{length-append}
use mathlib.Core.Path.{fun_ext}
use Rattle.std.proofs.Math.Nat.{div-le_self}
use Rattle.papaya_words.specs.Chunks.{chunk_len}
use Rattle.papaya_words.specs.Table.{TableWords, new_table}
use Rattle.papaya_words.specs.declared.limits.TheConstants.{MAX_TABLES}
use Rattle.papaya_call.specs.declared.ask.Ask.{Ask as Call_ask}
use Rattle.papaya_call.specs.declared.ask.Ask.TheVariants.{Load, LoadHint, SameKey, SizeOf}
use Rattle.papaya_call.specs.declared.ask.Answer.{Answer as Call_answer}
use Rattle.papaya_call.specs.declared.ask.Answer.TheVariants.{Word as Word_read}
use Rattle.papaya_call.specs.declared.ask.At.{At}
use Rattle.papaya_call.specs.declared.ask.At.TheVariants.{Root}
use Rattle.papaya_call.specs.declared.call.Reply.{Reply}
use Rattle.papaya_call.specs.declared.copy_ask.CopyAsk.{CopyAsk}
use Rattle.papaya_call.specs.declared.copy_ask.CopyAsk.TheVariants as copies
use Rattle.papaya_call.specs.declared.machine.Machine.{Machine as Call_machine}
use Rattle.papaya_call.specs.declared.machine.State.{State}
use Rattle.papaya_call.specs.declared.machine.State.TheVariants.{AtRoot, Searching, Leaving, Ended}
use Rattle.papaya_call.specs.declared.made.Made.{Made}
use Rattle.papaya_call.specs.Machine as calls
use Rattle.papaya_call.specs.declared.copy.link.Link.TheVariants.{Linking}
use Rattle.papaya_call.specs.declared.chain.ask.Ask.{Ask}
use Rattle.papaya_call.specs.declared.chain.ask.Answer.{Answer}
use Rattle.papaya_call.specs.declared.chain.machine.Machine.{Machine}
use Rattle.papaya_call.specs.declared.chain.machine.Phase.TheVariants.{Calling}
use Rattle.papaya_call.specs.ChainMachine.{IsFit, IsFitAsk, IsValid, after, ask_of, asks_in, follows_of, kind_of_ask}
use Rattle.papaya_call.specs.declared.chain.ask.Ask.TheVariants as asks
use Rattle.papaya_call.specs.declared.chain.ask.Answer.TheVariants as answers
use Rattle.papaya_call_law.specs.Goes.{IsInOrder, IsOwnStep, link_in}
use Rattle.papaya_call_law.specs.ChainAnswers.{IsTrueOf}
use Rattle.papaya_call_law.proofs.Goes.{machine_goes}
use Rattle.papaya_call_law.proofs.Names.{call_asks}
use Rattle.papaya_call_law.proofs.Order.{in_order}
use Rattle.papaya_call_law.proofs.Replies.{chain_task}
use Rattle.papaya_call_law.proofs.ChainStanding.{chain_ask_fits, chain_stands}
use Rattle.papaya_call_alone.specs.Ahead.{IsCurrent}
use Rattle.papaya_call_alone.specs.Prompt.{IsBounded, IsServedAsk}
use Rattle.papaya_call_alone.proofs.ChainLaw.{call_current, call_nears}
use Rattle.papaya_call_alone.specs.Budget.{Spends, SpendsCall, SpendsCopy}
use Rattle.papaya_call_alone.specs.Rank.{measure}
use Rattle.papaya_words_law.specs.Code.{Coding, IsHashed}
use Rattle.papaya_words_law.specs.Exchange.{Exchange, Setting, State as Words, run, start}
use Rattle.papaya_words_law.specs.Class.{IsOn}
use Rattle.papaya_words_law.specs.Allows.{AllAllowed}
use Rattle.papaya_words_law.specs.Invariant.{IsSound}
use Rattle.papaya_words_law.specs.Meaning.{map_left}
use Rattle.papaya_words_law.proofs.Logs.{on_comes}
use Rattle.papaya_words_law.proofs.OneMap.{keeping, keeping_sound}
use Rattle.papaya_call_law.specs.Alone.{HasMetNone, IsSeeker, IsUnmatched}
use Rattle.papaya_call_law.specs.Copier.{HasWords}
use Rattle.papaya_call_law.specs.TrueAnswers.{word_of}
use Rattle.papaya_call_law.proofs.AloneUnmatched.{machine_meets_none}
use Rattle.papaya_core_store.specs.Asks.{PerformsAsk}
use Rattle.papaya_core_store.specs.Performs.{own_key, Exchanges, MakesTable, Refuses}
use Rattle.papaya_core_store.specs.declared.pairs.Running.{Running}
use Rattle.papaya_core_store.specs.Store.{StoreState, Stored}
use Rattle.papaya_core_store.specs.Tables.{table_of, word_at, Tables, note, put}
use Rattle.papaya_core_store.specs.CopyAsks.{PerformsCopy}
use Rattle.papaya_core_timeline.proofs.KeptAnswer.{IsAnswered as IsLeft}
use Rattle.papaya_core_timeline.specs.Advances.{reply_in}
use Rattle.papaya_core_timeline.specs.Core.{IsCore}
use Rattle.papaya_core_timeline.specs.Kept.{CallTrace, IsConsistent, IsMadeFor, slots_in}
use Rattle.papaya_core_timeline.specs.Solo.{whatever}
use Rattle.papaya_core_timeline.proofs.BudgetSpends.{kept_bounded, budget_bounded}
use Rattle.papaya_core_timeline.proofs.KeptSettings.{IsLawfulKeys}
use Rattle.papaya_call_law.proofs.LinkMade.{is_made, machine_made, made_is}
use Rattle.papaya_core_timeline.proofs.MadeTables.{copy_made}
use Rattle.papaya_core_timeline.proofs.StoreLemmas.{AllSized, IsKeptAsked, numbered, performed_ask, unnumbered, matched}
use Rattle.papaya_core_timeline.specs.Ends.{budget_in, budget_of}
use Rattle.papaya_core_timeline.proofs.BudgetLaw.{copy_chunk, copy_fewer}
use Rattle.papaya_core_timeline.proofs.BudgetTables.{IsChunkOf, changes_at, noted-budget, placed-changes}
use Rattle.papaya_core_timeline.proofs.KeptMade.{refusal}
use Rattle.papaya_core_timeline.proofs.KeptTables.{IsPlaced, placed-many, table_low}
use Rattle.papaya_core_timeline.proofs.KeptWritten.{asked_copy, placed_copy}
use Rattle.papaya_seq.specs.Map.{MapState}
use Rattle.papaya_seq.specs.Lengths.{lengths_of}
use Rattle.papaya_seq.proofs.CallLengths.{IsCallStep, long_more}
use Rattle.papaya_seq.proofs.RootStays.{root_stays}
use Rattle.papaya_seq.proofs.Seeking.{IsSeeking, Seeks}
use Rattle.papaya_seq.proofs.TableLengths.{IsCountedBy}
use Rattle.papaya_seq.proofs.SeekTurns.{IsLook, IsTurn, Looks, asked_look, turn_words}
use Rattle.papaya_seq.proofs.Ending.{left_of, left_to}
use Rattle.papaya_seq.proofs.SeekTurns as turns

-- if it has not replied, it has met no pair
met_none : (made : Made) (hash : ℕ) (st : State) → Seeks st → reply_in (asks.Call (calls.asks made hash st)) ≡ None → HasMetNone st
met_none made hash AtRoot seeks going = tt
met_none made hash (Searching search) seeks going = tt
met_none made hash (Leaving t) seeks going = tt
met_none made hash (Ended reply) seeks going = let f : Some reply ≡ None = going in absurd cc
met_none made hash st seeks going = absurd seeks

seeks_none : (st : State) → HasMetNone st → Seeks st
seeks_none AtRoot met = tt
seeks_none (Searching search) met = tt
seeks_none (Leaving t) met = tt
seeks_none (Ended reply) met = inl met
seeks_none st met = absurd met

-- a word that may change less often then spends an exchange
write_spends : (w : Tables) (at : At) (new : ℕ) → IsPlaced w.tables at → IsChunkOf at
    → changes_at (length w.tables) at new < changes_at (length w.tables) at (word_at w at)
    → ((budget_in (put w at new)).tables ≡ (budget_in w).tables) × ((budget_in (put w at new)).exchanges < (budget_in w).exchanges)
write_spends w at new placed chunk_is less =
    (ap (λ n. 2 ^ 32 - n) (placed-many w at new placed), let change = placed-changes w at new placed chunk_is in omega (arith, change, less))

-- a table that is made is spent
made_spends : (w : Tables) (n slots limit chunks : ℕ) → length w.tables < MAX_TABLES
    → (budget_in (record w { tables = w.tables ++ new_table n slots limit chunks ∷ [] })).tables < (budget_in w).tables
made_spends w n slots limit chunks few = let more : length (w.tables ++ new_table n slots limit chunks ∷ []) ≡ length w.tables + 1 = length-append
    w.tables (new_table n slots limit chunks ∷ []) in omega (arith, more, few)

module _ {K V S : Type 0} (eq : K → K → Bool) (hash : S → K → ℕ) (s : MapState K V S) (h : ℕ) (keys : IsLawfulKeys eq (hash s.store.hasher)) (fits : h < 2 ^ 64)
    (store : StoreState K V S) (m : Machine) (answer : Answer) (store' : StoreState K V S) (seeking : IsSeeking eq hash s h store m)
    (going : reply_in (ask_of m) ≡ None) (turn : IsTurn eq hash store (ask_of m) answer store') where
  -- the effect of the answer
  abbrev gq : Setting (Option K) (Stored K V)
  gq = turns.gq eq hash s h keys fits store m answer store' seeking going turn

  abbrev cq : Coding (Option K) (Stored K V)
  cq = turns.cq eq hash s h keys fits store m answer store' seeking going turn

  abbrev call_trace : CallTrace K V
  call_trace = seeking.call_trace

  abbrev es : List (Exchange (Stored K V))
  es = call_trace.begun ++ call_trace.since

  abbrev r : Running K V (Unit {0})
  r = turns.r eq hash s h keys fits store m answer store' seeking going turn

  abbrev left : IsLeft gq cq store r es call_trace (own_key store r) None (ask_of m) answer store' r
  left = turns.left eq hash s h keys fits store m answer store' seeking going turn

  abbrev es' : List (Exchange (Stored K V))
  es' = call_trace.begun ++ (call_trace.since ++ left.made)

  hashed : IsHashed gq cq
  hashed = turns.hashed eq hash s h keys fits store m answer store' seeking going turn

  may : AllAllowed gq start es
  may = turns.may eq hash s h keys fits store m answer store' seeking going turn

  coded : (at : At) → word_of gq cq (run es start) at ≡ word_at store.words at
  coded = turns.coded eq hash s h keys fits store m answer store' seeking going turn

  -- the answer is within limits, and tables keep their sizes
  fits_all : IsKeptAsked answer store'
  fits_all = by_ask (ask_of m) refl turn
    where
      all : AllSized store.words.tables
      all = unnumbered store.words.tables seeking.core.sizes

      by_look : (ask : Call_ask) → ask_of m ≡ asks.Call ask → (told : Call_answer) → answer ≡ answers.Call told → Looks store ask told
          → store' ≡ store → IsKeptAsked answer store'
      by_look (Load at) e told is looks same = performed_ask eq hash whatever false (asks.Call (Load at)) store r answer store' r all
          (subst IsFitAsk e (chain_ask_fits m seeking.valid)) (told, is, (looks, (same, refl)))
      by_look (SizeOf t) e told is looks same = performed_ask eq hash whatever false (asks.Call (SizeOf t)) store r answer store' r all
          (subst IsFitAsk e (chain_ask_fits m seeking.valid)) (told, is, (looks, (same, refl)))
      by_look (LoadHint t x) e told is looks same = performed_ask eq hash whatever false (asks.Call (LoadHint t x)) store r answer store' r all
          (subst IsFitAsk e (chain_ask_fits m seeking.valid)) (told, is, (looks, (same, refl)))
      by_look (SameKey n) e told is looks same = record { fit = subst IsFit (sym (is ∙ ap answers.Call looks)) tt; sized = numbered_back }
        where
          numbered_back : AllSized store'.words.tables
          numbered_back = unnumbered store'.words.tables
              (λ n t there. seeking.core.sizes n t (ap (λ (y : StoreState K V S). table_of y.words.tables n) (sym same) ∙ there))
      by_look ask e told is looks same = absurd looks

      by_ask : (ask : Ask) → ask_of m ≡ ask → IsTurn eq hash store ask answer store' → IsKeptAsked answer store'
      by_ask (asks.Call ask) e (told, is, looks, same) = by_look ask e told is looks same
      by_ask (asks.Copy ask) e copied = performed_ask eq hash whatever false (asks.Copy ask) store r answer store' r all
          (subst IsFitAsk e (chain_ask_fits m seeking.valid)) (copied, refl)

  pub seek_fit : IsFit answer
  seek_fit = fits_all.fit

  pub core' : IsCore {A = Unit {0}} store' [] s.mode
  core' = record {
    chunked = seeking.core.chunked;
    limit = seeking.core.limit;
    sizes = numbered store'.words.tables fits_all.sized;
    valid = λ d q
        e. absurd cc;
    going = λ d q e. absurd cc;
    resizers = λ d z e. absurd cc;
    scanners = λ d v e. absurd cc;
  }

  pub standing' : IsValid (after m answer)
  standing' = chain_stands m seeking.valid answer seek_fit

  -- the answer is one to its ask
  ordered : IsInOrder m answer m.phase
  ordered = in_order gq cq call_trace.begun call_trace.since None m call_trace.loaded (run es start) answer left.made left.loaded seeking.relies left.told

  -- the words are bounded, and its ask is served
  pub bounded : IsBounded gq (run es start)
  bounded =
      let all = kept_bounded eq (hash s.store.hasher) keys s.mode store [] seeking.core es (λ d. call_trace) seeking.kept in
      record { number = λ t on. all.number t on; size = λ t limit on places. all.size t limit on places }

  pub served : IsServedAsk m.call.task (ask_of m) answer
  served = by_ask (ask_of m) refl turn
    where
      by_look : (ask : Call_ask) (told : Call_answer) → Looks store ask told → IsServedAsk m.call.task (asks.Call ask) (answers.Call told)
      by_look (Load at) told looks = tt
      by_look (LoadHint t x) told looks = tt
      by_look (SameKey n) told looks = tt
      by_look (SizeOf t) told looks = tt
      by_look ask told looks = absurd looks

      by_ask : (ask : Ask) → ask_of m ≡ ask → IsTurn eq hash store ask answer store' → IsServedAsk m.call.task ask answer
      by_ask (asks.Call ask) e (told, is, looks, same) = subst (IsServedAsk m.call.task (asks.Call ask)) (sym is) (by_look ask told looks)
      by_ask (asks.Copy ask) e copied = tt

  -- a word that was read is unchanged
  pub words_are : word_of gq cq (run es start) ≡ word_at store.words
  words_are = fun_ext (λ at. coded at)

  pub words'_are : word_of gq cq (run es' start) ≡ word_at store'.words
  words'_are = fun_ext (λ at. ap (λ l. word_of gq cq (run l start) at) (sym (append_assoc call_trace.begun call_trace.since left.made)) ∙ left.coded at)

  has_words : HasWords gq (link_in m.phase)
  has_words = turns.has_words eq hash s h keys fits store m answer store' seeking going turn

  pub read : IsCurrent (word_of gq cq (run es start)) m
  read = subst (λ words. IsCurrent words m) (sym words_are) seeking.current

  current' : IsCurrent (word_at store'.words) (after m answer)
  current' = subst (λ words. IsCurrent words (after m answer)) words'_are
      (call_current gq cq (hashed) call_trace.begun call_trace.since (may) bounded None m call_trace.loaded seeking.relies has_words read answer
      left.made left.loaded left.told served)

  seeker : IsSeeker m.call.task
  seeker = subst IsSeeker (sym seeking.task) tt

  -- it has still met no pair, or a next table was refused
  own_seeks : IsOwnStep m answer → Seeks (after m answer).call.state
  own_seeks own =
      let asking : ask_of m ≡ asks.Call (calls.ask_of m.call) = ap (asks_in m.call) own.phase in
      let met : HasMetNone m.call.state = met_none m.call.made m.call.hash m.call.state seeking.seeks (ap reply_in (sym asking) ∙ going) in
      subst (λ (y : Call_machine). Seeks y.state) (sym own.call) (seeks_none _ (machine_meets_none m.call seeker own.told met
      (unmatched (calls.ask_of m.call) own.told own.is (subst (λ y. IsTurn eq hash store y answer store') asking turn)
      (subst (λ y. IsTrueOf gq cq None (run es start) (kind_of_ask m) (follows_of m) call_trace.loaded y answer left.made left.loaded) asking left.told))))
    where
      same_told : (a b : Call_answer) → answer ≡ answers.Call a → answer ≡ answers.Call b → a ≡ b
      same_told a b e f = let g : answers.Call a ≡ answers.Call b = sym e ∙ f in cc

      unmatched : (ask : Call_ask) (told : Call_answer) → answer ≡ answers.Call told → IsTurn eq hash store (asks.Call ask) answer store'
          → IsTrueOf gq cq None (run es start) (kind_of_ask m) (follows_of m) call_trace.loaded (asks.Call ask) answer left.made left.loaded → IsUnmatched ask told
      unmatched (Load at) told is (a, a_is, looks, same) t = (_, same_told told a is a_is ∙ looks)
      unmatched (LoadHint i x) told is (a, a_is, looks, same) t = (_, same_told told a is a_is ∙ looks)
      unmatched (SameKey n) told is (a, a_is, looks, same) t = same_told told a is a_is ∙ looks
      unmatched (SizeOf n) told is (a, a_is, looks, same) t = (_, t.tells.0.0, same_told told t.told is t.is ∙ t.tells.0.2)
      unmatched ask told is (a, a_is, looks, same) t = absurd looks

  seeks' : Seeks (after m answer).call.state
  seeks' = elim (machine_goes m answer ordered) [
    | inl waits ↦ subst (λ (y : Call_machine). Seeks y.state) (sym waits.call) seeking.seeks
    | inr (inl own) ↦ own_seeks own
    | inr (inr (inl enters)) ↦ subst (λ (y : Call_machine). Seeks y.state) (sym enters.call) tt
    | inr (inr (inr (inl anew))) ↦ subst (λ (y : Call_machine). Seeks y.state) (sym anew.call)
        (seeks_none _ (machine_meets_none (record m.call { state = AtRoot }) seeker (Word_read anew.root) tt (anew.root, refl)))
    | inr (inr (inr (inr refused))) ↦ subst (λ (y : Call_machine). Seeks y.state) (sym refused.call) (inr (refused.refused, refl))
  ]

  -- the table that is about to be linked was made
  performs_copy : (m.phase ≡ Calling → ⊥) → PerformsAsk eq whatever hash false (ask_of m) store r answer store' r
  performs_copy aside = by_ask (ask_of m) refl turn
    where
      by_ask : (ask : Ask) → ask_of m ≡ ask → IsTurn eq hash store ask answer store' → PerformsAsk eq whatever hash false ask store r answer store' r
      by_ask (asks.Call ask) e looks = absurd (aside (call_asks m ask e).0)
      by_ask (asks.Copy ask) e copied = (copied, refl)

  links' : (behind t chunks : ℕ) → link_in (after m answer).phase ≡ Some (Linking behind t chunks) → IsMadeFor store' t chunks
  links' =
      is_made (IsMadeFor store') (link_in (after m answer).phase)
      (machine_made (IsMadeFor store') m answer
      (λ n behind slots limit chunks aside is making.
      copy_made eq whatever hash false store r answer store' r m behind slots limit chunks making (performs_copy aside) n is)
      (made_is (IsMadeFor store') (link_in m.phase)
      (λ behind t chunks linking. turns.still_made eq hash s h keys fits store m answer store' seeking going turn t chunks
      (seeking.links behind t chunks linking))))

  -- the effect of the step on the lengths of tables: a lookup leaves them
  stepped : IsCallStep eq hash store store' m answer
  stepped = record {
    own = λ calling. let (told, is, looks, same) = own_turn calling in inl (ap (λ (y : StoreState K V S). lengths_of y.words) same);
    counted = λ calling. let (told, is, looks, same) = own_turn calling in
        (told, is, looks_count (calls.ask_of m.call) told looks (ap (λ (y : StoreState K V S). y.count) same));
    copy = λ ask e. subst (λ a. IsTurn eq hash store a answer store') e turn;
    first = λ calling making. absurd (subst Seeks making seeking.seeks);
    stays = root_stays {A = Unit {0}} eq (hash s.store.hasher) keys s.mode store store' [] [] es left.made (λ d. call_trace)
        (λ d. turns.call_trace' eq hash s h keys fits store m answer store' seeking going turn) seeking.kept core'
        (subst (λ l. IsConsistent {A = Unit {0}} eq (hash s.store.hasher) s.mode store' [] l
        (λ d. turns.call_trace' eq hash s h keys fits store m answer store' seeking going turn))
        (sym (append_assoc call_trace.begun call_trace.since left.made)) (turns.kept' eq hash s h keys fits store m answer store' seeking going turn));
  }
    where
      own_turn : m.phase ≡ Calling → IsTurn eq hash store (asks.Call (calls.ask_of m.call)) answer store'
      own_turn calling = subst (λ phase. IsTurn eq hash store (asks_in m.call phase) answer store') calling turn

      looks_count : (ask : Call_ask) (told : Call_answer) → Looks store ask told → store'.count ≡ store.count → IsCountedBy ask store told store'
      looks_count (Load at) told looks same = same
      looks_count (LoadHint t x) told looks same = same
      looks_count (SameKey n) told looks same = same
      looks_count (SizeOf n) told looks same = same
      looks_count ask told looks same = absurd looks

  -- so it is in order after the answer
  pub seek_turn : IsSeeking eq hash s h store' (after m answer)
  seek_turn = record {
    call_trace = turns.call_trace' eq hash s h keys fits store m answer store' seeking going turn;
    core = core';
    kept = turns.kept' eq hash s h keys fits store m answer store' seeking going turn;
    relies = turns.relies' eq hash s h keys fits store m answer store' seeking going turn;
    last = λ p l. ⊎_elim (λ old. left.logged p.number p (seeking.last p old))
        (λ stood. turns.stood_logged eq hash s h keys fits store m answer store' seeking going turn p stood) (left.last p l);
    carried = λ p l. ⊎_elim (λ old. left.logged p.number p (seeking.carried p old)) (λ told. left.logged p.number p (seeking.last p told)) (left.carried p l);
    made = λ p l. elim (left.new p l) [ inl old ↦ left.logged p.number p (seeking.made p old) | inr new ↦ new.2 ];
    links = links';
    valid = standing';
    current = current';
    task = (chain_task m answer ordered).0 ∙ seeking.task;
    hash_is = (chain_task m answer ordered).1 ∙ seeking.hash_is;
    seeks = seeks';
    logs = turn_words eq hash store (ask_of m) answer store' turn ∙ ap (λ (y : StoreState K V S). record y { words = store'.words }) seeking.logs;
    taken = turns.turn_taken eq hash s h keys fits store m answer store' seeking going turn ∙ seeking.taken;
    same = λ k. turns.map_stays eq hash s h keys fits store m answer store' seeking going turn core' k ∙ seeking.same k;
    long = long_more s eq hash store store' m answer going stepped seeking.long;
  }

  abbrev now : Words (Stored K V)
  now = run es start

  sound : IsSound gq now
  sound = keeping_sound gq now (map_left gq es) (keeping gq hashed.lawful es may)

  -- tables of the chain were made, with sizes of tables
  on_low : (t : ℕ) → IsOn now.first now.next t → t ≤ length store.words.tables
  on_low t on = let made = seeking.kept.made t on.0 (on_comes now t on) in table_low store.words.tables t made.0 made.1

  slots_most : (t : ℕ) → gq.size t ≤ 2 ^ 32
  slots_most t = by_table (table_of store.words.tables t) refl
    where
      by_table : (o : Option TableWords) → table_of store.words.tables t ≡ o → slots_in o ≤ 2 ^ 32
      by_table None e = omega arith
      by_table (Some words) e = (seeking.core.sizes t words e).most

  -- a slot's chunk has no greater number than the slot
  cut_low : (x : ℕ) → gq.chunk_of x ≤ x
  cut_low x = div-le_self x (chunk_len s.mode.resize)

  -- an exchange of its copy was made
  copy_exchanges : (at : At) (old new : ℕ) → ask_of m ≡ asks.Copy (copies.Exchange at old new) → (word_at store.words at == old) ≡ true
      → ((budget_in (put store.words at new)).tables ≡ (budget_of store).tables) × ((budget_in (put store.words at new)).exchanges < (budget_of store).exchanges)
  copy_exchanges at old new e hit =
      let no_open = turns.no_open eq hash s h keys fits store m answer store' seeking going turn in
      let stands : word_of gq cq now at ≡ old = coded at ∙ eqb-true (word_at store.words at) old hit in
      let x = asked_copy gq cq store r es call_trace (own_key store r) hashed None refl may seeking.relies coded seeking.kept.made no_open
      seeking.links refl (λ t. refl) (λ t. refl) at old new e stands in
      let placed = placed_copy gq cq store r es call_trace (own_key store r) hashed None refl may seeking.relies coded seeking.kept.made no_open
      seeking.links refl (λ t. refl) (λ t. refl) at old new e in
      write_spends store.words at new placed (copy_chunk gq cq now (length store.words.tables) sound slots_most cut_low on_low (kind_of_ask m) at new
      call_trace.loaded.kept x.0 x.1 x.2)
      (subst (λ y. changes_at (length store.words.tables) at new < changes_at (length store.words.tables) at y) (coded at)
      (copy_fewer gq cq now (length store.words.tables) sound slots_most cut_low on_low (kind_of_ask m) at new call_trace.loaded.kept x.0 x.1 x.2
      (sym x.3.here)))

  same_words : store' ≡ store → budget_of store' ≡ budget_of store
  same_words same = ap (λ (y : StoreState K V S). budget_of y) same

  noted_words : (t x hint : ℕ) → store' ≡ record store { words = note store.words t x hint } → budget_of store' ≡ budget_of store
  noted_words t x hint same = ap (λ (y : StoreState K V S). budget_of y) same ∙ noted-budget store.words t x hint

  spends_exchange : (at : At) (old new : ℕ) → ask_of m ≡ asks.Copy (copies.Exchange at old new) → (told : Call_answer)
      → Exchanges (word_at store.words at) old (put store.words at new) told store store'
      → SpendsCopy (copies.Exchange at old new) (answers.Call told) (budget_of store) (budget_of store')
  spends_exchange at old new e told ex =
      matched (SpendsCopy (copies.Exchange at old new) (answers.Call told) (budget_of store) (budget_of store')) (word_at store.words at == old) _ _ ex
      (λ hit done. subst (λ y. SpendsCopy (copies.Exchange at old new) (answers.Call y) (budget_of store) (budget_of store')) (sym done.0)
      (subst (λ (y : StoreState K V S). ((budget_of y).tables ≡ (budget_of store).tables) × ((budget_of y).exchanges < (budget_of store).exchanges))
      (sym done.1) (copy_exchanges at old new e hit)))
      (λ miss lost. subst (λ y. SpendsCopy (copies.Exchange at old new) (answers.Call y) (budget_of store) (budget_of store')) (sym lost.0) (same_words lost.1))

  -- a table, made or refused
  spends_table : (slots limit chunks : ℕ) (told : Call_answer) → (Refuses MAX_TABLES (length store.words.tables) told × (store' ≡ store))
      ⊎ MakesTable told slots limit chunks store store'
      → SpendsCopy (copies.MakeTable slots limit chunks) (answers.Call told) (budget_of store) (budget_of store')
  spends_table slots limit chunks told (inl (refuses, same)) = let no = refusal _ _ told refuses in
      subst (λ y. SpendsCopy (copies.MakeTable slots limit chunks) (answers.Call y) (budget_of store) (budget_of store')) (sym no.1) (same_words same)
  spends_table slots limit chunks told (inr (is, few, grown)) =
      subst (λ y. SpendsCopy (copies.MakeTable slots limit chunks) (answers.Call y) (budget_of store) (budget_of store')) (sym is)
      (subst (λ (y : StoreState K V S). (budget_of y).tables < (budget_of store).tables) (sym grown)
      (made_spends store.words (length store.words.tables + 1) slots limit chunks few))

  spends_copy : (ask : CopyAsk) → ask_of m ≡ asks.Copy ask → PerformsCopy eq hash false ask store answer store'
      → SpendsCopy ask answer (budget_of store) (budget_of store')
  spends_copy (copies.Load at) e (is, same) = same_words same
  spends_copy (copies.Exchange at old new) e
      (told, is, ex) = subst (λ y. SpendsCopy (copies.Exchange at old new) y (budget_of store) (budget_of store')) (sym is) (spends_exchange at old new e told ex)
  spends_copy (copies.LoadHint t x) e (is, same) = same_words same
  spends_copy (copies.WriteHint t x hint) e (is, same) = noted_words t x hint same
  spends_copy (copies.SizeOf n) e (is, same) = same_words same
  spends_copy (copies.HashOf n) e (is, fit, same) = same_words same
  spends_copy (copies.SamePair i n) e (is, same) = same_words same
  spends_copy copies.Count e (is, same) = same_words same
  spends_copy (copies.MakeTable slots limit chunks) e
      (told, is, makes) = subst (λ y. SpendsCopy (copies.MakeTable slots limit chunks) y (budget_of store) (budget_of store')) (sym is)
      (spends_table slots limit chunks told makes)

  spends_look : (ask : Call_ask) (told : Call_answer) → Looks store ask told → store' ≡ store
      → SpendsCall (kind_of_ask m) ask told (budget_of store) (budget_of store')
  spends_look (Load at) told looks same = same_words same
  spends_look (LoadHint t x) told looks same = same_words same
  spends_look (SameKey n) told looks same = same_words same
  spends_look (SizeOf t) told looks same = same_words same
  spends_look ask told looks same = absurd looks

  spends : Spends (kind_of_ask m) (ask_of m) answer (budget_of store) (budget_of store')
  spends = by_ask (ask_of m) refl turn
    where
      by_ask : (ask : Ask) → ask_of m ≡ ask → IsTurn eq hash store ask answer store' → Spends (kind_of_ask m) ask answer (budget_of store) (budget_of store')
      by_ask (asks.Call ask) e (told, is, looks, same) = subst (λ y. Spends (kind_of_ask m) (asks.Call ask) y (budget_of store) (budget_of store'))
          (sym is) (spends_look ask told looks same)
      by_ask (asks.Copy ask) e copied = spends_copy ask e copied

  few : (budget_of store').exchanges < 2 ^ 128
  few = budget_bounded eq (hash s.store.hasher) keys s.mode store' [] (core') es'
      (λ d. turns.call_trace' eq hash s h keys fits store m answer store' seeking going turn)
      (turns.kept' eq hash s h keys fits store m answer store' seeking going turn)

  -- the measure falls
  falls : measure (budget_of store') store'.words.root (after m answer) < measure (budget_of store) store.words.root m
  falls =
      subst (λ n. measure (budget_of store') n (after m answer) < measure (budget_of store) store.words.root m) (ap (λ f. f Root) (words'_are))
      (subst (λ n. measure (budget_of store') (run es' start).root (after m answer) < measure (budget_of store) n m) (ap (λ f. f Root) (words_are))
      (call_nears gq cq hashed call_trace.begun call_trace.since may (bounded) None m call_trace.loaded seeking.relies has_words (read) answer
      left.made left.loaded left.told
      (served) (budget_of store) (budget_of store') spends few (standing')))

  pub turn_nears : left_of store' (after m answer) < left_of store m
  turn_nears = by_reply (reply_in (ask_of (after m answer))) refl
    where
      far : left_of store m ≡ suc (measure (budget_of store) store.words.root m)
      far = ap (λ o. left_to o (measure (budget_of store) store.words.root m)) going

      by_reply : (o : Option Reply) → reply_in (ask_of (after m answer)) ≡ o → left_of store' (after m answer) < left_of store m
      by_reply None e = let near = ap (λ o. left_to o (measure (budget_of store') store'.words.root (after m answer))) e in let less = falls in
          let from = far in omega (arith, less, near, from)
      by_reply (Some told) e = let near = ap (λ o. left_to o (measure (budget_of store') store'.words.root (after m answer))) e in let from = far in
          omega (arith, near, from)
