-- Each answer to a copy's ask, and the state in which it leaves the call that was set aside.
use Rattle.std.proofs.Common.{◌≡◌, ◌⊎◌, inl, inr, ℕ, ◌+◌, ◌<◌, ◌==◌, Bool, true, false, Option}
use Rattle.std.proofs.Common.{None, Some, List, [], ◌∷◌, length, append-nil, refl, sym, ap, ◌∙◌}
use Rattle.std.proofs.Common.{subst}
use Rattle.std.specs.Cmp.{IsEquivalence}
use mathlib.Core.List.{IsPrefix}
use Rattle.boxcar.specs.Table.{Where}
use Rattle.logbook.specs.Pages.{Book, may_write, nib}
use Rattle.logbook.specs.declared.tokens.Pen.{Pen}
use Rattle.papaya_words.specs.declared.refused.Refused.{Refused}
use Rattle.papaya_words.specs.declared.refused.Refused.TheVariants.{Capacity, Memory}
use Rattle.papaya_call.specs.declared.ask.At.{At}
use Rattle.papaya_call.specs.declared.ask.At.TheVariants.{Next, Slot}
use Rattle.papaya_call.specs.declared.ask.Answer.{Answer as Call_answer}
use Rattle.papaya_call.specs.declared.ask.Answer.TheVariants.{Exchanged, Found as Found_instead}
use Rattle.papaya_call.specs.declared.ask.Answer.TheVariants.{Made as Made_number, Ok as Ok_done}
use Rattle.papaya_call.specs.declared.ask.Answer.TheVariants.{Refused as Was_refused, Size}
use Rattle.papaya_call.specs.declared.ask.Answer.TheVariants.{Word as Word_read, Yes}
use Rattle.papaya_call.specs.declared.ask.StepKind.{StepKind}
use Rattle.papaya_call.specs.declared.ask.StepKind.TheVariants as kinds
use Rattle.papaya_call.specs.declared.copy_ask.CopyAsk.{CopyAsk}
use Rattle.papaya_call.specs.declared.copy_ask.CopyAsk.TheVariants as copies
use Rattle.papaya_call.specs.declared.copy.link.Link.TheVariants as links
use Rattle.papaya_call.specs.declared.chain.ask.Answer.{Answer}
use Rattle.papaya_call.specs.declared.chain.ask.Answer.TheVariants as answers
use Rattle.papaya_call.specs.declared.chain.ask.Ask.{Ask}
use Rattle.papaya_call.specs.declared.chain.ask.Ask.TheVariants as asks
use Rattle.papaya_call.specs.ChainMachine.{IsValid, after, ask_of, follows_of, kind_of_ask}
use Rattle.papaya_call_law.specs.Goes.{link_in}
use Rattle.papaya_call_law.specs.ChainAnswers.{IsTrueOfCopy}
use Rattle.papaya_call_law.proofs.LinkMade.{IsMadeLink, is_made, link_tried, machine_linking, machine_links, made_is}
use Rattle.papaya_call_law.proofs.LinkStates.{In}
use Rattle.papaya_words_law.specs.Class.{IsOn}
use Rattle.papaya_words_law.specs.Exchange.{Exchange, run, start}
use Rattle.papaya_words_law.specs.Hints.{IsHint}
use Rattle.papaya_call_law.specs.Copier.{HasWords}
use Rattle.papaya_call_law.specs.TrueAnswers.{or_last}
use Rattle.papaya_map_book.specs.declared.rule.entry.Begun.{Begun}
use Rattle.papaya_map_book.specs.declared.rule.entry.Event.{Event}
use Rattle.papaya_map_book.specs.declared.rule.own.CapacityCause.TheVariants.{Sum}
use Rattle.papaya_map_book.specs.Calls.{HasCome, IsTable, IsTried}
use Rattle.papaya_map_book.specs.Makers.{IsMade}
use Rattle.papaya_map_book.specs.Plays.{CanExchange}
use Rattle.papaya_map_book.specs.declared.rule.entry.Named.{Named}
use Rattle.papaya_map_book.specs.declared.rule.entry.Named.TheVariants as names
use Rattle.papaya_map_book.specs.Hashes.{hash_of}
use Rattle.papaya_map_book.specs.Hinted.{IsSlotHint}
use Rattle.papaya_map_book.specs.Limits.{IsFull, tables_of}
use Rattle.papaya_map_book.specs.Logs.{Member, Stored, coding_of, exchanges_of, number_of, pair_named, setting_of, state_of, steps_of}
use Rattle.papaya_map_book.specs.Rule.{IsLawfulLog, IsPlaced}
use Rattle.papaya_map_book.specs.Sheets.{Sheet}
use Rattle.papaya_map_book.proofs.Lengths.{table_slots}
use Rattle.papaya_map_book.proofs.TableSizes.{sizes}
use Rattle.papaya_map_lookup.proofs.Readings.{hint_with}
use Rattle.papaya_map_change.specs.declared.driver.Driver.{Driver}
use Rattle.papaya_map_change.specs.Changing.{HasChunks, IsBringing, IsDriven, IsForm, IsFresh, IsReadyAs, loaded_with}
use Rattle.papaya_map_change.specs.Copier.{marked_or}
use Rattle.papaya_map_change.specs.Helping.{HasCopied, IsGivenBy, IsLoadedFor, IsSetAside, IsTriedFor}
use Rattle.papaya_map_change.proofs.HelpingRelies.{copied, leads, new_hand, same_hand}
use Rattle.papaya_map_change.proofs.HelpingFollows.{follows_on}
use Rattle.papaya_map_change.proofs.HelpingPlaces.{HasComeFor, all_there, came_for, chain_came, relying, slot_within}
use Rattle.papaya_map_change.proofs.Relying.{coded, wide}
use Rattle.papaya_map_change.proofs.HelpingExchanges.{C, G, can_copy, can_link, grown, linked_words, lost, tried_link, word_there}

-- a pair that a call holds is stored in the book's arenas
pub placed_or : {K V S : Type 0} (b : Begun K V S) (name : Book) (pair last : Option (Stored K V)) → IsPlaced b (Some name) (pair_named pair)
    → IsPlaced b (Some name) (pair_named last) → IsPlaced b (Some name) (pair_named (or_last pair last))
placed_or b name None last p q = q
placed_or b name (Some z) last p q = p

module _ {K V S H : Type 0} (eq : K → K → Bool) (input : K → List (List ℕ)) (build : S → H) (write : H → List ℕ → H) (finish : H → ℕ)
    (classes : IsEquivalence eq) (respects : (x y : K) → eq x y ≡ true → input x ≡ input y)
    (b : Begun K V S) (name : Book) (matches : K → Bool) (fed : ℕ) (form : IsForm eq (hash_of input build write finish) b matches fed) (k : Option K)
    (begun : List (Event K V S)) (made : List (Stored K V)) (v : List (Event K V S)) (c : Driver K V S H)
    (r : IsDriven eq (hash_of input build write finish) b name matches fed k begun v made c) where
  abbrev hash : S → K → ℕ
  hash = hash_of input build write finish

  -- if a copy loads or exchanges a word, the word's table has come
  pub load_came : (at : At) → ask_of c.machine ≡ asks.Copy (copies.Load at)
      → HasComeFor eq input build write finish classes respects b name matches fed form k begun v c.machine c.table c.copier.last c.copier.kept made c.taken c.put c.copier.fresh r at
  load_came at asked = came_for eq input build write finish classes respects b name matches fed form k begun v c.machine c.table c.copier.last c.copier.kept made
      c.taken c.put c.copier.fresh r at (all_there eq input build write finish classes respects b name matches fed form k begun v c.machine c.table c.copier.last
      c.copier.kept made c.taken c.put c.copier.fresh r (copies.Load at) asked)

  pub try_came : (at : At) (old new : ℕ) → ask_of c.machine ≡ asks.Copy (copies.Exchange at old new)
      → HasComeFor eq input build write finish classes respects b name matches fed form k begun v c.machine c.table c.copier.last c.copier.kept made c.taken c.put c.copier.fresh r at
  try_came at old new asked = came_for eq input build write finish classes respects b name matches fed form k begun v c.machine c.table c.copier.last c.copier.kept
      made c.taken c.put c.copier.fresh r at (all_there eq input build write finish classes respects b name matches fed form k begun v c.machine c.table c.copier.last
      c.copier.kept made c.taken c.put c.copier.fresh r (copies.Exchange at old new) asked)

  pub size_came : (t : ℕ) → ask_of c.machine ≡ asks.Copy (copies.SizeOf t) → HasCome v t
  size_came t asked = chain_came v t (all_there eq input build write finish classes respects b name matches fed form k begun v c.machine c.table
      c.copier.last c.copier.kept made c.taken c.put c.copier.fresh r (copies.SizeOf t) asked)

  -- so has the table that is to get a next one
  pub follows_came : (slots limit chunks : ℕ) → ask_of c.machine ≡ asks.Copy (copies.MakeTable slots limit chunks) → HasCome v (follows_of c.machine)
  follows_came slots limit chunks asked =
      let rest = relying eq input build write finish classes respects b name matches fed form k begun v c.machine c.table c.copier.last c.copier.kept made c.taken
      c.put c.copier.fresh r in
      chain_came v (follows_of c.machine) (subst (λ (z : List (Exchange (Stored K V))).
      IsOn (run z start).first (run z start).next (follows_of c.machine)) rest.is
      (follows_on (wide eq input build write finish classes respects b matches fed form k (exchanges_of begun) v)
      (coded eq input build write finish classes respects b matches fed form k (exchanges_of begun)) slots limit chunks (exchanges_of begun)
      rest.since k c.machine (loaded_with c.copier.last c.copier.kept made) rest.relies asked))

  -- and has the slot
  pub load_low : (t x : ℕ) → ask_of c.machine ≡ asks.Copy (copies.Load (Slot t x)) → (log : List (Event K V S)) → IsPrefix v log → (sheet : Sheet)
      → IsTable log t sheet → x < length sheet.slots
  load_low t x asked = slot_within eq input build write finish classes respects b name matches fed form k begun v c.machine c.table c.copier.last c.copier.kept made
      c.taken c.put c.copier.fresh r t x (all_there eq input build write finish classes respects b name matches fed form k begun v c.machine c.table c.copier.last
      c.copier.kept made c.taken c.put c.copier.fresh r (copies.Load (Slot t x)) asked)

  pub try_low : (t x old new : ℕ) → ask_of c.machine ≡ asks.Copy (copies.Exchange (Slot t x) old new) → (log : List (Event K V S)) → IsPrefix v log
      → (sheet : Sheet) → IsTable log t sheet → x < length sheet.slots
  try_low t x old new asked = slot_within eq input build write finish classes respects b name matches fed form k begun v c.machine c.table c.copier.last
      c.copier.kept made c.taken c.put c.copier.fresh r t x (all_there eq input build write finish classes respects b name matches fed form k begun v c.machine
      c.table c.copier.last c.copier.kept made c.taken c.put c.copier.fresh r (copies.Exchange (Slot t x) old new) asked)

  -- it may make the exchange that it asks for, unless it is a link
  pub may_try : (at : At) (old new : ℕ) → ask_of c.machine ≡ asks.Copy (copies.Exchange at old new) → ((t : ℕ) → at ≡ Next t → ⊥)
      → (log : List (Event K V S)) → IsPrefix v log → CanExchange eq hash b at (kind_of_ask c.machine) old new c.copier.kept names.Nothing log
  may_try at old new asked other log pre = can_copy eq input build write finish classes respects b name matches fed form k begun v c.machine c.table
      c.copier.last c.copier.kept made c.taken c.put c.copier.fresh r at old new asked other log pre

  -- A copy that asks to link a table asks to link the one at hand, if none is linked yet.
  pub record IsLinking (t old new : ℕ) : Type 0 where
    pub none : old ≡ 0
    pub kind : kind_of_ask c.machine ≡ Some kinds.Link
    pub fresh : IsFresh b name v new c.copier.fresh
    pub chunks : ℕ
    pub words : HasChunks c.copier.fresh chunks
    pub link : link_in c.machine.phase ≡ Some (links.Linking t new chunks)

  pub linking : (t old new : ℕ) → ask_of c.machine ≡ asks.Copy (copies.Exchange (Next t) old new) → IsLinking t old new
  linking t old new asked =
      let about = machine_links c.machine t old new asked in
      let both = machine_linking c.machine t new about.0 about.1 in
      let same : asks.Copy (copies.Exchange (Next t) old new) ≡ asks.Copy (copies.Exchange (Next t) 0 new) = sym asked ∙ both.0 in record {
        none = (let zero : old ≡ 0 = cc same in zero);
        kind = both.1;
        fresh = r.brings new (subst (λ (a : Ask). IsBringing a new) (sym both.0) (refl, refl));
        chunks = about.0;
        words = r.words t new about.0 about.1;
        link = about.1;
      }

  module _ (t old new : ℕ) (asked : ask_of c.machine ≡ asks.Copy (copies.Exchange (Next t) old new)) (table : Where Sheet) (seal : Pen)
      (is : c.copier.fresh ≡ Some (table, seal)) where
    -- it is this table, with this seal
    pub record IsReady : Type 0 where
      pub number_is : number_of table ≡ new
      pub words_made : IsMade table.value v
      pub placed : IsPlaced b (Some name) (names.Table table)
      pub seal_book : seal.book ≡ name
      pub seal_nib : seal.nib ≡ nib may_write table.value.seal 0

    pub ready : IsReady
    ready =
        let f = (linking t old new asked).fresh in
        let pairs : Some (f.table, f.seal) ≡ Some (table, seal) = sym f.is ∙ is in
        let both : (f.table, f.seal) ≡ (table, seal) = cc pairs in record {
          number_is = ap (λ (z : Where Sheet × Pen). number_of z.0) (sym both) ∙ f.number_is;
          words_made = subst (λ (z : Where Sheet × Pen). IsMade z.0.value v) both f.made;
          placed = subst (λ (z : Where Sheet × Pen). IsPlaced b (Some name) (names.Table z.0)) both f.placed;
          seal_book = ap (λ (z : Where Sheet × Pen). z.1.book) (sym both) ∙ f.seal_book;
          seal_nib = subst (λ (z : Where Sheet × Pen). z.1.nib ≡ nib may_write z.0.value.seal 0) both f.seal_nib;
        }

    -- it may be linked
    pub may_link : (log : List (Event K V S)) → IsPrefix v log
        → CanExchange eq hash b (Next t) (Some kinds.Link) 0 (table.index + 1) None (names.Table table) log
    may_link log pre = let l = linking t old new asked in
        can_link eq input build write finish classes respects b name matches fed form k begun v c.machine c.table c.copier.last c.copier.kept made c.taken c.put
        c.copier.fresh r t old new asked l.kind l.none l.chunks l.link l.words table seal is ready.number_is log pre

    -- with it no pair is marked
    pub link_marks : c.copier.last ≡ marked_or (kind_of_ask c.machine) None c.copier.last
    link_marks = sym (ap (λ (o : Option StepKind). marked_or o None c.copier.last) (linking t old new asked).kind)

    -- there was an attempt to link it
    pub link_for : (seen : List (Event K V S)) → IsPrefix v seen → (found : ℕ) (log : List (Event K V S)) (state : Option (Named K V))
        → IsTried eq hash b (Next t) (Some kinds.Link) 0 (table.index + 1) None (names.Table table) seen found log state
        → IsTriedFor eq hash b name (Next t) (kind_of_ask c.machine) old new c.copier.kept c.copier.fresh v found log None
    link_for seen pre found log state tried =
        let l = linking t old new asked in
        subst (λ (o : Option StepKind). IsTriedFor eq hash b name (Next t) o old new c.copier.kept c.copier.fresh v found log None) (sym l.kind)
        (subst (λ (n : ℕ). IsTriedFor eq hash b name (Next t) (Some kinds.Link) n new c.copier.kept c.copier.fresh v found log None) (sym l.none)
        (subst (λ (n : ℕ). IsTriedFor eq hash b name (Next t) (Some kinds.Link) 0 n c.copier.kept c.copier.fresh v found log None) ready.number_is
        (tried_link eq hash b name v seen pre t (table.index + 1) c.copier.kept c.copier.fresh table seal is found log state tried)))

-- the same for a call whose machine is valid
module _ {K V S H : Type 0} (eq : K → K → Bool) (input : K → List (List ℕ)) (build : S → H) (write : H → List ℕ → H) (finish : H → ℕ)
    (classes : IsEquivalence eq) (respects : (x y : K) → eq x y ≡ true → input x ≡ input y)
    (b : Begun K V S) (name : Book) (matches : K → Bool) (fed : ℕ) (form : IsForm eq (hash_of input build write finish) b matches fed) (k : Option K)
    (begun : List (Event K V S)) (made : List (Stored K V)) (v : List (Event K V S)) (c : Driver K V S H)
    (r : IsDriven eq (hash_of input build write finish) b name matches fed k begun v made c) (valid : IsValid c.machine) where
  abbrev hashes : S → K → ℕ
  hashes = hash_of input build write finish

  abbrev Gs : List (Event K V S) → Rattle.papaya_words_law.specs.Exchange.Setting (Option K) (Stored K V)
  Gs log = G eq input build write finish classes respects b name matches fed form k begun v c.machine c.table c.copier.last c.copier.kept made c.taken c.put c.copier.fresh r log

  abbrev Cs : Rattle.papaya_words_law.specs.Code.Coding (Option K) (Stored K V)
  Cs = C eq input build write finish classes respects b name matches fed form k begun v c.machine c.table c.copier.last c.copier.kept made c.taken c.put c.copier.fresh r

  -- the state after the answer
  abbrev Leaves : List (Event K V S) → Driver K V S H → Answer → Type 0
  Leaves log c' answer = HasCopied eq hashes b name matches fed k begun made log c c' answer

  -- the answer was true of the words before an exchange, or of all
  abbrev Tells : List (Event K V S) → (before log : List (Event K V S)) → IsPrefix before log → CopyAsk → Answer → (last kept : Option (Stored K V)) → Type 0
  Tells setting before log pre ask answer last kept = IsTrueOfCopy (Gs setting) Cs (state_of before) (kind_of_ask c.machine) (follows_of c.machine)
      (loaded_with c.copier.last c.copier.kept made) ask answer (exchanges_of pre.0) (loaded_with last kept made)

  -- if a size was received, a table of that many slots has come
  abbrev IsSizeTold : List (Event K V S) → Answer → Type 0
  IsSizeTold log answer = (slots limit : ℕ) → answer ≡ answers.Call (Size slots limit) → Member slots (tables_of log)

  module _ (ask : CopyAsk) (asked : ask_of c.machine ≡ asks.Copy ask) (before : List (Event K V S)) (since : IsPrefix v before)
      (l₀ : IsLawfulLog eq hashes b before) (log : List (Event K V S)) (l : IsLawfulLog eq hashes b log) (pre : IsPrefix before log) (answer : Answer)
      (words : answer ≡ answers.Call Exchanged → HasWords (Gs log) (link_in c.machine.phase)) (c' : Driver K V S H) (by : IsGivenBy answer c'.copier.given.done)
      (told : Tells log before log pre ask answer c'.copier.last c'.copier.kept) where
    -- the call, with its changes as before
    answered : c'.taken ≡ c.taken → c'.put ≡ c.put → IsPlaced b (Some name) (pair_named c'.copier.last) → IsPlaced b (Some name) (pair_named c'.copier.kept)
        → In (IsMadeLink (IsReadyAs b name log c'.copier.fresh)) (link_in (after c.machine answer).phase) → IsSizeTold log answer → Leaves log c' answer
    answered taken put placed placed' hand size = record {
      relies = subst (λ (o : Option (Stored K V)).
          IsSetAside eq hashes b name matches fed k begun log (after c.machine answer) c'.copier.last c'.copier.kept made o c'.put c'.copier.fresh) (sym taken)
          (subst (λ (o : Option (Stored K V)). IsSetAside eq hashes b name matches fed k begun log (after c.machine answer) c'.copier.last c'.copier.kept made
          c.taken o c'.copier.fresh) (sym put)
          (copied eq input build write finish classes respects b name matches fed form k begun v c.machine c.table c.copier.last c.copier.kept made c.taken c.put
          c.copier.fresh r valid ask asked before since l₀ log l pre answer words c'.copier.last c'.copier.kept c'.copier.fresh c'.copier.given.done by told placed placed' hand size));
      leads = leads eq input build write finish classes respects b name matches fed form k begun v c.machine c.table c.copier.last c.copier.kept made c.taken c.put
          c.copier.fresh r valid ask asked before since l₀ log l pre answer words c'.copier.last c'.copier.kept c'.copier.fresh c'.copier.given.done by told;
    }

  -- the table at hand is as before if none was made or linked
  kept_hand : (ask : CopyAsk) → ask_of c.machine ≡ asks.Copy ask → (log : List (Event K V S)) → IsPrefix v log → (answer : Answer)
      → ((n : ℕ) → answer ≡ answers.Call (Made_number n) → ⊥) → (c' : Driver K V S H) → c'.copier.fresh ≡ c.copier.fresh
      → In (IsMadeLink (IsReadyAs b name log c'.copier.fresh)) (link_in (after c.machine answer).phase)
  kept_hand ask asked log pre answer none c' same =
      subst (λ (o : Option (Where Sheet × Pen)). In (IsMadeLink (IsReadyAs b name log o)) (link_in (after c.machine answer).phase)) (sym same)
      (same_hand eq input build write finish classes respects b name matches fed form k begun v c.machine c.table c.copier.last c.copier.kept made c.taken c.put
      c.copier.fresh r valid ask asked log pre answer none)

  -- an answer with which nothing is exchanged
  module _ (ask : CopyAsk) (asked : ask_of c.machine ≡ asks.Copy ask) (log : List (Event K V S)) (l : IsLawfulLog eq hashes b log)
      (pre : IsPrefix v log) (answer : Answer) (c' : Driver K V S H) (by : IsGivenBy answer c'.copier.given.done)
      (told : Tells log log log ([], append-nil log) ask answer c'.copier.last c'.copier.kept) where
    quiet : c'.taken ≡ c.taken → c'.put ≡ c.put → c'.copier.fresh ≡ c.copier.fresh → IsPlaced b (Some name) (pair_named c'.copier.last)
        → IsPlaced b (Some name) (pair_named c'.copier.kept) → (answer ≡ answers.Call Exchanged → ⊥) → ((n : ℕ) → answer ≡ answers.Call (Made_number n) → ⊥)
        → IsSizeTold log answer → Leaves log c' answer
    quiet taken put fresh placed placed' still none size =
        answered ask asked log pre l log l ([], append-nil log) answer (λ e. absurd (still e)) c' by told taken put placed placed'
        (kept_hand ask asked log pre answer none c' fresh) size

  -- a word was loaded
  pub as_loaded : (at : At) → ask_of c.machine ≡ asks.Copy (copies.Load at) → (log : List (Event K V S)) → IsPrefix v log
      → (word : ℕ) (c' : Driver K V S H) → c' ≡ record c { copier = record c.copier { last = c'.copier.last } } → IsLoadedFor eq hashes b name at word log c.copier.last c'.copier.last
      → Leaves log c' (answers.Call (Word_read word))
  as_loaded at asked log pre word c' rest is =
      let here = word_there eq input build write finish classes respects b name matches fed form k begun v c.machine c.table c.copier.last c.copier.kept made
      c.taken c.put c.copier.fresh r log log at ∙ is.is in
      quiet (copies.Load at) asked log is.lawful pre (answers.Call (Word_read word)) c' tt
      (ap (λ (n : ℕ). answers.Call (Word_read n)) (sym here), refl, (λ i. loaded_with (is.last_is i) ((ap (λ (d : Driver K V S H). d.copier.kept) rest) i) made))
      (ap (λ (d : Driver K V S H). d.taken) rest) (ap (λ (d : Driver K V S H). d.put) rest) (ap (λ (d : Driver K V S H). d.copier.fresh) rest)
      (is.placed r.last_placed) (subst (λ (o : Option (Stored K V)). IsPlaced b (Some name) (pair_named o))
      (sym (ap (λ (d : Driver K V S H). d.copier.kept) rest)) r.kept_placed) (λ e. cc e) (λ n e. cc e) (λ slots limit e. absurd (cc e))

  -- the call is unchanged
  still : (c' : Driver K V S H) → c' ≡ c → loaded_with c'.copier.last c'.copier.kept made ≡ loaded_with c.copier.last c.copier.kept made
  still c' same = ap (λ (d : Driver K V S H). loaded_with d.copier.last d.copier.kept made) same

  quiet_still : (ask : CopyAsk) → ask_of c.machine ≡ asks.Copy ask → (log : List (Event K V S)) → IsLawfulLog eq hashes b log → IsPrefix v log
      → (answer : Answer) → IsGivenBy answer c.copier.given.done → Tells log log log ([], append-nil log) ask answer c.copier.last c.copier.kept
      → (answer ≡ answers.Call Exchanged → ⊥) → ((n : ℕ) → answer ≡ answers.Call (Made_number n) → ⊥) → IsSizeTold log answer → (c' : Driver K V S H)
      → c' ≡ c → Leaves log c' answer
  quiet_still ask asked log l pre answer by told still none size c' same = subst (λ (d : Driver K V S H). Leaves log d answer) (sym same)
      (quiet ask asked log l pre answer c by told refl refl refl r.last_placed r.kept_placed still none size)

  -- a hint was loaded
  pub hinted : (t x : ℕ) → ask_of c.machine ≡ asks.Copy (copies.LoadHint t x) → (log : List (Event K V S)) → IsPrefix v log → (hint : ℕ)
      → IsSlotHint eq hashes b t x hint log → (c' : Driver K V S H) → c' ≡ c → Leaves log c' (answers.Call (Word_read hint))
  hinted t x asked log pre hint is c' same =
      let there : IsHint (Gs log) Cs (state_of log) t x hint = hint_with (setting_of eq (hashes b.hasher) b.mode b.limit log)
      (coding_of (hashes b.hasher)) matches fed ((state_of log).slot t x) hint is.is in
      quiet_still (copies.LoadHint t x) asked log is.lawful pre (answers.Call (Word_read hint)) tt ((hint, there, refl), (refl, refl)) (λ e. cc e)
      (λ n e. cc e) (λ slots limit e. absurd (cc e)) c' same

  -- and one was written
  pub noted : (t x n : ℕ) → ask_of c.machine ≡ asks.Copy (copies.WriteHint t x n) → (log : List (Event K V S)) → IsLawfulLog eq hashes b log
      → IsPrefix v log → (c' : Driver K V S H) → c' ≡ c → Leaves log c' (answers.Call Ok_done)
  noted t x n asked log l pre c' same = quiet_still (copies.WriteHint t x n) asked log l pre (answers.Call Ok_done) tt (refl, (refl, refl))
      (λ e. cc e) (λ i e. cc e) (λ slots limit e. absurd (cc e)) c' same

  -- the size of a table
  pub sized : (t : ℕ) → ask_of c.machine ≡ asks.Copy (copies.SizeOf t) → (log : List (Event K V S)) → IsLawfulLog eq hashes b log → IsPrefix v log
      → (sheet : Sheet) → IsTable log t sheet → (slots limit : ℕ) → slots ≡ length sheet.slots → limit ≡ sheet.limit → (c' : Driver K V S H) → c' ≡ c
      → Leaves log c' (answers.Call (Size slots limit))
  sized t asked log l pre sheet came slots limit slots_is limit_is c' same =
      let all = sizes (steps_of log) t came.0 came.1 in
      let size : IsSizeTold log (answers.Call (Size slots limit)) = λ many least e. let same_slots : slots ≡ many = cc e in
      subst (λ (n : ℕ). Member n (tables_of log)) (sym slots_is ∙ same_slots) (table_slots log t sheet came) in
      let many : slots ≡ (Gs log).size t = slots_is ∙ sym (all.0 ∙ ap (λ (z : Sheet). length z.slots) came.2) in
      let places : limit + 1 ≡ (Gs log).places t = ap (λ n. n + 1) limit_is ∙ sym (all.1 ∙ ap (λ (z : Sheet). z.limit + 1) came.2) in
      quiet_still (copies.SizeOf t) asked log l pre (answers.Call (Size slots limit)) tt
      ((limit, places, ap (λ n. answers.Call (Size n limit)) many), (refl, refl)) (λ e. cc e) (λ n e. cc e) size c' same

  -- the pair last loaded is moved
  pub hashed : (n : ℕ) → ask_of c.machine ≡ asks.Copy (copies.HashOf n) → (word : ℕ)
      → ((p : Stored K V) → c.copier.last ≡ Some p → word ≡ hashes b.hasher p.value.key.value) → (c' : Driver K V S H) → c' ≡ record c { copier = record c.copier { kept = c'.copier.kept } }
      → c'.copier.kept ≡ c.copier.last → Leaves v c' (answers.Hash word)
  hashed n asked word is c' rest carries =
      quiet (copies.HashOf n) asked v r.lawful ([], append-nil v) (answers.Hash word) c' tt
      (λ p e number. ap answers.Hash (is p e), refl, (λ i. loaded_with ((ap (λ (d : Driver K V S H). d.copier.last) rest) i) (carries i) made))
      (ap (λ (d : Driver K V S H). d.taken) rest) (ap (λ (d : Driver K V S H). d.put) rest) (ap (λ (d : Driver K V S H). d.copier.fresh) rest)
      (subst (λ (o : Option (Stored K V)). IsPlaced b (Some name) (pair_named o)) (sym (ap (λ (d : Driver K V S H). d.copier.last) rest)) r.last_placed)
      (subst (λ (o : Option (Stored K V)). IsPlaced b (Some name) (pair_named o)) (sym carries) r.last_placed) (λ e. cc e) (λ i e. cc e)
      (λ slots limit e. absurd (cc e))

  -- it was compared
  pub compared : (i n : ℕ) → ask_of c.machine ≡ asks.Copy (copies.SamePair i n) → (same : Bool)
      → ((p q : Stored K V) → c.copier.kept ≡ Some p → c.copier.last ≡ Some q → same ≡ eq p.value.key.value q.value.key.value) → (c' : Driver K V S H) → c' ≡ c
      → Leaves v c' (answers.Call (Yes same))
  compared i n asked same is c' stays = quiet_still (copies.SamePair i n) asked v r.lawful ([], append-nil v) (answers.Call (Yes same)) tt
      (λ p q e first f second. ap (λ z. answers.Call (Yes z)) (is p q e f), (refl, refl)) (λ e. cc e) (λ j e. cc e) (λ slots limit e. absurd (cc e)) c' stays

  -- the count was summed
  pub counted : ask_of c.machine ≡ asks.Copy copies.Count → (sum : ℕ) (c' : Driver K V S H) → c' ≡ record c { copier = record c.copier { given = c'.copier.given } }
      → c'.copier.given.done ≡ Sum sum ∷ [] → Leaves v c' (answers.Count sum)
  counted asked sum c' rest given =
      quiet copies.Count asked v r.lawful ([], append-nil v) (answers.Count sum) c' given
      ((sum, refl), (refl, ap (λ (d : Driver K V S H). loaded_with d.copier.last d.copier.kept made) rest))
      (ap (λ (d : Driver K V S H). d.taken) rest) (ap (λ (d : Driver K V S H). d.put) rest) (ap (λ (d : Driver K V S H). d.copier.fresh) rest)
      (subst (λ (o : Option (Stored K V)). IsPlaced b (Some name) (pair_named o)) (sym (ap (λ (d : Driver K V S H). d.copier.last) rest)) r.last_placed)
      (subst (λ (o : Option (Stored K V)). IsPlaced b (Some name) (pair_named o)) (sym (ap (λ (d : Driver K V S H). d.copier.kept) rest)) r.kept_placed)
      (λ e. cc e) (λ i e. cc e) (λ slots limit e. absurd (cc e))

  module _ (slots limit chunks : ℕ) (asked : ask_of c.machine ≡ asks.Copy (copies.MakeTable slots limit chunks)) (log : List (Event K V S))
      (l : IsLawfulLog eq hashes b log) (pre : IsPrefix v log) (c' : Driver K V S H) (rest : c' ≡ record c { copier = record c.copier { fresh = c'.copier.fresh; given = c'.copier.given } }) where
    abbrev last_same : c'.copier.last ≡ c.copier.last
    last_same = ap (λ (d : Driver K V S H). d.copier.last) rest

    abbrev kept_same : c'.copier.kept ≡ c.copier.kept
    kept_same = ap (λ (d : Driver K V S H). d.copier.kept) rest

    placed_last : IsPlaced b (Some name) (pair_named c'.copier.last)
    placed_last = subst (λ (o : Option (Stored K V)). IsPlaced b (Some name) (pair_named o)) (sym last_same) r.last_placed

    placed_kept : IsPlaced b (Some name) (pair_named c'.copier.kept)
    placed_kept = subst (λ (o : Option (Stored K V)). IsPlaced b (Some name) (pair_named o)) (sym kept_same) r.kept_placed

    -- a table was made
    pub tabled : (n : ℕ) → follows_of c.machine < n → IsReadyAs b name log c'.copier.fresh n chunks → Leaves log c' (answers.Call (Made_number n))
    tabled n past fresh =
        answered (copies.MakeTable slots limit chunks) asked log pre l log l ([], append-nil log) (answers.Call (Made_number n)) (λ e. absurd (cc e))
        c' tt (inr (n, past, refl), (refl, ap (λ (d : Driver K V S H). loaded_with d.copier.last d.copier.kept made) rest))
        (ap (λ (d : Driver K V S H). d.taken) rest) (ap (λ (d : Driver K V S H). d.put) rest) placed_last placed_kept
        (new_hand eq input build write finish classes respects b name matches fed form k begun v c.machine c.table c.copier.last c.copier.kept made c.taken c.put
        c.copier.fresh r valid (copies.MakeTable slots limit chunks) asked log slots limit chunks refl c'.copier.fresh n fresh) (λ many least e. absurd (cc e))

    -- or memory or room ran out
    pub unmade : (refused : Refused) → (refused ≡ Memory) ⊎ ((refused ≡ Capacity) × IsFull c'.copier.given.done) → c'.copier.fresh ≡ c.copier.fresh
        → Leaves log c' (answers.Call (Was_refused refused))
    unmade refused why same =
        quiet (copies.MakeTable slots limit chunks) asked log l pre (answers.Call (Was_refused refused)) c' why
        (inl (refused, refl), (refl, ap (λ (d : Driver K V S H). loaded_with d.copier.last d.copier.kept made) rest))
        (ap (λ (d : Driver K V S H). d.taken) rest) (ap (λ (d : Driver K V S H). d.put) rest) same placed_last placed_kept (λ e. cc e) (λ i e. cc e)
        (λ many least e. absurd (cc e))

  module _ (at : At) (old new : ℕ) (asked : ask_of c.machine ≡ asks.Copy (copies.Exchange at old new)) (found : ℕ) (log : List (Event K V S))
      (pair : Option (Stored K V)) (t : IsTriedFor eq hashes b name at (kind_of_ask c.machine) old new c.copier.kept c.copier.fresh v found log pair)
      (c' : Driver K V S H) where
    placed_marked : IsPlaced b (Some name) (pair_named (marked_or (kind_of_ask c.machine) pair c.copier.last))
    placed_marked = by_kind (kind_of_ask c.machine)
      where
        by_kind : (kind : Option Rattle.papaya_call.specs.declared.ask.StepKind.StepKind) → IsPlaced b (Some name) (pair_named (marked_or kind pair c.copier.last))
        by_kind (Some Rattle.papaya_call.specs.declared.ask.StepKind.TheVariants.Mark) = t.placed
        by_kind other = r.last_placed

    abbrev placed_carried : c'.copier.kept ≡ c.copier.kept → IsPlaced b (Some name) (pair_named c'.copier.kept)
    placed_carried same = subst (λ (o : Option (Stored K V)). IsPlaced b (Some name) (pair_named o)) (sym same) r.kept_placed

    -- an exchange was made
    pub exchanged : (found == old) ≡ true → c'.taken ≡ c.taken → c'.put ≡ c.put → c'.copier.kept ≡ c.copier.kept → c'.copier.last ≡ marked_or (kind_of_ask c.machine) pair c.copier.last
        → In (IsMadeLink (IsReadyAs b name log c'.copier.fresh)) (link_in (after c.machine (answers.Call Exchanged)).phase) → Leaves log c' (answers.Call Exchanged)
    exchanged is taken put carried marked hand =
        let g = grown eq input build write finish classes respects b name matches fed form k begun v c.machine c.table c.copier.last c.copier.kept made c.taken
        c.put c.copier.fresh r at old new asked found log pair t is in
        answered (copies.Exchange at old new) asked t.before t.since t.lawful log t.now g.0 (answers.Call Exchanged)
        (λ e. linked_words eq input build write finish classes respects b name matches fed form k begun v c.machine c.table c.copier.last c.copier.kept made
        c.taken c.put c.copier.fresh r at old new asked found log pair t is) c' tt
        (subst (λ (o : Option (Stored K V)). Tells log t.before log g.0 (copies.Exchange at old new) (answers.Call Exchanged) o c'.copier.kept) (sym marked)
        (subst (λ (o : Option (Stored K V)). Tells log t.before log g.0 (copies.Exchange at old new) (answers.Call Exchanged)
        (marked_or (kind_of_ask c.machine) pair c.copier.last) o) (sym carried) g.1))
        taken put (subst (λ (o : Option (Stored K V)). IsPlaced b (Some name) (pair_named o)) (sym marked) placed_marked) (placed_carried carried)
        hand (λ slots limit e. absurd (cc e))

    -- or it was lost
    pub beaten : (found == old) ≡ false → c'.taken ≡ c.taken → c'.put ≡ c.put → c'.copier.kept ≡ c.copier.kept → c'.copier.last ≡ or_last pair c.copier.last
        → In (IsMadeLink (IsReadyAs b name log c'.copier.fresh)) (link_in (after c.machine (answers.Call (Found_instead found))).phase)
        → Leaves log c' (answers.Call (Found_instead found))
    beaten is taken put carried told hand =
        let g = lost eq input build write finish classes respects b name matches fed form k begun v c.machine c.table c.copier.last c.copier.kept made c.taken c.put
        c.copier.fresh r at old new asked found log pair t is in
        answered (copies.Exchange at old new) asked t.before t.since t.lawful log t.now g.0 (answers.Call (Found_instead found)) (λ e. absurd (cc e)) c' tt
        (subst (λ (o : Option (Stored K V)). Tells log t.before log g.0 (copies.Exchange at old new) (answers.Call (Found_instead found)) o c'.copier.kept) (sym told)
        (subst (λ (o : Option (Stored K V)). Tells log t.before log g.0 (copies.Exchange at old new) (answers.Call (Found_instead found))
        (or_last pair c.copier.last) o) (sym carried) g.1))
        taken put (subst (λ (o : Option (Stored K V)). IsPlaced b (Some name) (pair_named o)) (sym told)
        (placed_or b name pair c.copier.last t.placed r.last_placed)) (placed_carried carried) hand (λ slots limit e. absurd (cc e))

    -- the table at hand is as before
    pub hand_kept : (told : Call_answer) → ((n : ℕ) → told ≡ Made_number n → ⊥) → IsPrefix v log → c'.copier.fresh ≡ c.copier.fresh
        → In (IsMadeLink (IsReadyAs b name log c'.copier.fresh)) (link_in (after c.machine (answers.Call told)).phase)
    hand_kept told none pre same = kept_hand (copies.Exchange at old new) asked log pre (answers.Call told)
        (λ n e. let f : told ≡ Made_number n = cc e in none n f) c' same

  -- or there was an attempt to link it, and no table is about to be linked
  pub hand_tried : (t old new : ℕ) → ask_of c.machine ≡ asks.Copy (copies.Exchange (Next t) old new)
      → (log : List (Event K V S)) (fresh : Option (Where Sheet × Pen)) (told : Call_answer) → (told ≡ Exchanged)
      ⊎ ((word : ℕ) × (told ≡ Found_instead word)) → In (IsMadeLink (IsReadyAs b name log fresh)) (link_in (after c.machine (answers.Call told)).phase)
  hand_tried t old new asked log fresh told is =
      let about = machine_links c.machine t old new asked in
      let none = link_tried c.machine t new about.0 about.1 told is in
      made_is (IsReadyAs b name log fresh) (link_in (after c.machine (answers.Call told)).phase)
      (λ behind n chunks e. absurd (is_made (λ i j. ⊥) (link_in (after c.machine (answers.Call told)).phase) none behind n chunks e))
