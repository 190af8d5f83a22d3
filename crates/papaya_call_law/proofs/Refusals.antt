-- The causes with which a call over a chain fails.
use Rattle.std.proofs.Common.{◌≡◌, ◌⊎◌, inl, inr, ⊎_elim, ℕ, ◌+◌, ◌==◌, Bool, true, false, cond, Option, None, Some, List, [], ◌∷◌, refl, sym, ap, ◌∙◌, subst}
use Rattle.std.proofs.lemmas.Bool.{cond_both}
use Rattle.papaya_words.specs.declared.refused.Refused.{Refused}
use Rattle.papaya_words.specs.declared.resize_mode.ResizeMode.{ResizeMode}
use Rattle.papaya_words.specs.declared.resize_mode.ResizeMode.TheVariants.{Incremental, Blocking}
use Rattle.papaya_call.specs.declared.ask.Answer.{Answer as Call_answer}
use Rattle.papaya_call.specs.declared.ask.Answer.TheVariants.{Word as Word_read, Exchanged, Found as Found_instead, Refused as Was_refused}
use Rattle.papaya_call.specs.declared.ask.Ask.{Ask as Call_ask}
use Rattle.papaya_call.specs.declared.ask.Ask.TheVariants.{Exchange, Done as Ask_done}
use Rattle.papaya_call.specs.declared.ask.At.{At}
use Rattle.papaya_call.specs.declared.ask.At.TheVariants.{Slot, Made as Made_word}
use Rattle.papaya_call.specs.declared.ask.StepKind.{StepKind}
use Rattle.papaya_call.specs.declared.call.Reply.{Reply}
use Rattle.papaya_call.specs.declared.call.Reply.TheVariants.{Refused as Reply_refused}
use Rattle.papaya_call.specs.declared.call.Task.{Task}
use Rattle.papaya_call.specs.declared.call.Task.TheVariants.{Get, Insert, RemoveIf, Compute}
use Rattle.papaya_call.specs.declared.machine.Machine.{Machine as Call_machine}
use Rattle.papaya_call.specs.declared.machine.State.{State as Stage}
use Rattle.papaya_call.specs.declared.machine.State.TheVariants.{Making, Writing, Pairing, Leaving, Growing}
use Rattle.papaya_call.specs.declared.need.Need.{Need}
use Rattle.papaya_call.specs.declared.made.Made.{Made}
use Rattle.papaya_call.specs.Compute.{in_place_of}
use Rattle.papaya_call.specs.Machine.{asks, needed}
use Rattle.papaya_call.specs.Machine as call_machine
use Rattle.papaya_call.specs.declared.copy.copying.Aim.{Aim}
use Rattle.papaya_call.specs.declared.copy.copying.Aim.TheVariants as aims
use Rattle.papaya_call.specs.declared.copy.copying.Copied.{Copied}
use Rattle.papaya_call.specs.declared.copy.copying.Copied.TheVariants as copied
use Rattle.papaya_call.specs.declared.copy.copying.Copying.{Copying}
use Rattle.papaya_call.specs.declared.copy.link.Link.{Link}
use Rattle.papaya_call.specs.declared.copy.link.Link.TheVariants as links
use Rattle.papaya_call.specs.declared.copy.link.Linked.{Linked}
use Rattle.papaya_call.specs.declared.copy.link.Linked.TheVariants as linked
use Rattle.papaya_call.specs.Link.{link_ask}
use Rattle.papaya_call.specs.declared.chain.ask.Ask.{Ask}
use Rattle.papaya_call.specs.declared.chain.ask.Ask.TheVariants as asked
use Rattle.papaya_call.specs.declared.chain.ask.Answer.{Answer}
use Rattle.papaya_call.specs.declared.chain.ask.Answer.TheVariants as answers
use Rattle.papaya_call.specs.declared.chain.machine.Machine.{Machine}
use Rattle.papaya_call.specs.declared.chain.machine.Phase.{Phase}
use Rattle.papaya_call.specs.declared.chain.machine.Phase.TheVariants.{Calling, Linking, Copying as Copying_root}
use Rattle.papaya_call.specs.ChainMachine.{after, after_copied, after_in, after_linked, aim_for}
use Rattle.papaya_call.specs.ChainMachine.{answered, ask_of, asks_in, called, copying_after, follows_of}
use Rattle.papaya_call.specs.ChainMachine.{goes_on, grows_as, kind_in, kind_of_ask, leaves, link_after}
use Rattle.papaya_call.specs.ChainMachine.{onward, stepped, told_next}
use Rattle.papaya_call_law.proofs.ReliesReplyRefused.{IsMaking, IsReason, machine_reason}
use Rattle.papaya_call_law.proofs.Makings.{HoldsOfPairAsks, pair_holds, write_holds}
use Rattle.papaya_call_law.specs.TrueAnswers as call_told
use Rattle.papaya_call_law.proofs.ReliesLearn.{by_test}
use Rattle.papaya_words_law.specs.Code.{Coding}
use Rattle.papaya_words_law.specs.Exchange.{Setting, State, Exchange as Exchange_made}
use Rattle.papaya_call_law.specs.Copier.{link_in_copying}
use Rattle.papaya_call_law.specs.Goes.{IsCause, IsInOrder, IsOwnRefusal, IsOwnStep, IsToMake, WasNotMade, WouldBeTooLong, link_in}
use Rattle.papaya_call_law.specs.ChainRelies.{left_by}
use Rattle.papaya_call_law.specs.ChainAnswers.{IsTrueOf, LoadedPairs}
use Rattle.papaya_call_law.proofs.CopyRefusals.{copying_asks, of_copied, of_link, of_linked}
use Rattle.papaya_call_law.proofs.LinkRefusals.{HasCountedTooMany, HasNotMade, copying_ends, link_why}
use Rattle.papaya_call_law.proofs.Names.{call_asks}
use Rattle.papaya_call_law.proofs.Replies.{anew, aside_asks}
use Rattle.papaya_words.specs.Word.{live_word}

-- the failure with which an ask ends a call
abbrev of_reply : Reply → Option Refused
of_reply (Reply_refused refused) = Some refused
of_reply _ = None

abbrev of_asked : Ask → Option Refused
of_asked (asked.Call (Ask_done reply)) = of_reply reply
of_asked _ = None

-- a call that needs a next table fails by a word alone
growing_word : (call : Call_machine) (need : Need) (refused : Refused) (told : Call_answer) → call.state ≡ Growing need
    → call_machine.ask_of (call_machine.after call told) ≡ Ask_done (Reply_refused refused) → (word : ℕ) × (told ≡ Word_read word)
growing_word call need refused told grows e = by_answer told
    (ap (λ stage. call_machine.ask_of (call_machine.after (record call { state = stage }) told)) (sym grows) ∙ e)
  where
    by_answer : (told : Call_answer) → call_machine.ask_of (call_machine.after (record call { state = Growing need }) told) ≡ Ask_done
        (Reply_refused refused) → (word : ℕ) × (told ≡ Word_read word)
    by_answer (Word_read word) e = (word, refl)
    by_answer other e = absurd cc

module _ (m : Machine) where
  -- a call that continues in the next table doesn't fail
  goes_none : (helped : Bool) (aim : Aim) (n : ℕ) → of_asked (ask_of (goes_on m helped aim n)) ≡ None
  goes_none false aim n = refl
  goes_none true (aims.Settle slot) n = refl
  goes_none true (aims.Search table) n = refl
  goes_none true aims.Chunk n = refl
  goes_none true (aims.All met) n = refl

  onward_none : (n : ℕ) → of_asked (ask_of (onward m n)) ≡ None
  onward_none n = goes_none m.helped (aim_for m.call.state n) n

  -- nor one that receives the next table that it needs
  grows_none : (mode : ResizeMode) (need : Need) (word : ℕ) → of_asked (ask_of (grows_as m mode need word)) ≡ None
  grows_none Blocking need word = refl
  grows_none (Incremental chunk) need word = cond_both (word == 0) (record m { phase = Linking (links.Sizing (needed need) (needed need) false) })
      (onward m word) (λ (y : Machine). of_asked (ask_of y) ≡ None) (λ _. refl) (λ _. onward_none word)

  -- the call continued in phase `Calling`, and received no next table that it needs, or it doesn't
  -- fail
  abbrev IsStep : Call_answer → Machine → Type 0
  IsStep told m' = ((m' ≡ stepped m told) × ((need : Need) (word : ℕ) → m.call.state ≡ Growing need → told ≡ Word_read word → ⊥))
      ⊎ (of_asked (ask_of m') ≡ None)

  either_steps : (t word : ℕ) → m.call.state ≡ Leaving t → IsStep (Word_read word) (cond (word == 0) (stepped m (Word_read word)) (onward m word))
  either_steps t word e = cond_both (word == 0) (stepped m (Word_read word)) (onward m word) (IsStep (Word_read word))
      (λ _. inl (refl, λ need other grows _. absurd (cc (e, grows)))) (λ _. inr (onward_none word))

  leaves_steps : (task : Task) (t word : ℕ) → m.call.state ≡ Leaving t → IsStep (Word_read word) (leaves m task word)
  leaves_steps Get t word e = inl (refl, λ need other grows _. absurd (cc (e, grows)))
  leaves_steps (Insert replace) t word e = either_steps t word e
  leaves_steps RemoveIf t word e = either_steps t word e
  leaves_steps Compute t word e = either_steps t word e

  next_steps : (stage : Stage) (word : ℕ) → m.call.state ≡ stage → IsStep (Word_read word) (told_next m stage word)
  next_steps (Leaving t) word e = leaves_steps m.call.task t word e
  next_steps (Growing need) word e = inr (grows_none m.call.mode need word)
  next_steps stage word e = inl (refl, λ need other grows _. absurd (cc (e, grows)))

  called_steps : (told : Call_answer) → IsStep told (called m told)
  called_steps (Word_read word) = next_steps m.call.state word refl
  called_steps told = inl (refl, λ need other grows is. absurd (cc is))

  -- the making of a table, or the copy of the root, failed if the call did
  linked_ends : (refused : Refused) (end : Linked) → of_asked (ask_of (after_linked m end)) ≡ Some refused → of_linked end ≡ Some refused
  linked_ends refused (linked.On link) e = e
  linked_ends refused (linked.Table n) e = absurd (cc (onward_none n, e))
  linked_ends refused (linked.Refused other) e = e

  copied_ends : (t : ℕ) → left_by m.call.state ≡ Some t → (refused : Refused) (end : Copied) → of_asked (ask_of (after_copied m end)) ≡ Some refused
      → of_copied end ≡ Some refused
  copied_ends t left refused (copied.On goes) e = e
  copied_ends t left refused (copied.Search n) e = e
  copied_ends t left refused (copied.Root root) e = sym
      (anew (λ stage. of_asked (asked.Call (asks m.call.made m.call.hash stage)) ≡ None) refl refl refl (λ _. refl) m.call.task m.call.remembered.fill root) ∙ e
  copied_ends t left refused copied.Chunk e = sym (ap (λ ask. of_asked (asked.Call ask)) (aside_asks m.call.made m.call.hash m.call.state t left)) ∙ e
  copied_ends t left refused (copied.Refused other) e = e

module _ (m : Machine) (answer : Answer) (refused : Refused) where
  -- the making of a table fails by an answer, or by a count
  made_why : (made : Link) → link_in m.phase ≡ Some made → ask_of m ≡ asked.Copy (link_ask made)
      → of_linked (link_after made m.call.mode m.call.initial answer) ≡ Some refused → WasNotMade m answer refused ⊎ WouldBeTooLong m answer refused
  made_why made stands says e =
      ⊎_elim
      (λ (a : HasNotMade made answer refused).
      inl (record { slots = a.slots; limit = a.limit; chunks = a.chunks; asks = says ∙ ap asked.Copy a.asks; is = a.is }))
      (λ (b : HasCountedTooMany made m.call.initial answer refused).
      inr (record {
        capacity = b.capacity;
        behind = b.behind;
        unfit = b.unfit;
        slots = b.slots;
        copied = b.copied;
        link = stands
            ∙ ap Some b.link;
        asks = says ∙ ap (λ l. asked.Copy (link_ask l)) b.link;
        count = b.count;
        is = b.is;
        long = b.long;
      }))
      (link_why made m.call.mode m.call.initial answer refused e)

  -- if a copy makes one
  held_why : (goes : Copying) → m.phase ≡ Copying_root goes → (held : Option Link) → link_in_copying goes ≡ held
      → of_link (λ made. link_after made m.call.mode m.call.initial answer) held ≡ Some refused → WasNotMade m answer refused ⊎ WouldBeTooLong m answer refused
  held_why goes phase None holds e = absurd cc
  held_why goes phase (Some made) holds e = made_why made (ap link_in phase ∙ holds)
      (ap (asks_in m.call) phase ∙ ap asked.Copy (copying_asks goes made holds)) e

  -- an answer with a failure, in a state of making, answers an ask to make a part
  abbrev Makes : Type 0
  Makes = (told : Call_answer) → m.phase ≡ Calling → answer ≡ answers.Call told → told ≡ Was_refused refused → IsMaking m.call.state
      → IsToMake (call_machine.ask_of m.call)

  module _ (makes : Makes) (open_still : (reply : Reply) → ask_of m ≡ asked.Call (Ask_done reply) → ⊥)
      (ends : ask_of (after m answer) ≡ asked.Call (Ask_done (Reply_refused refused))) where
    -- the call continued in phase `Calling`
    own_why : (told : Call_answer) → m.phase ≡ Calling → answer ≡ answers.Call told → after m answer ≡ stepped m told
        → ((need : Need) (word : ℕ) → m.call.state ≡ Growing need → told ≡ Word_read word → ⊥) → IsOwnRefusal m answer refused
    own_why told phase is same no_table = by_reason (machine_reason m.call refused told still then)
      where
        still : (reply : Reply) → call_machine.ask_of m.call ≡ Ask_done reply → ⊥
        still reply e = open_still reply (ap (asks_in m.call) phase ∙ ap asked.Call e)

        then : call_machine.ask_of (call_machine.after m.call told) ≡ Ask_done (Reply_refused refused)
        then = ap (λ (y : Machine). call_machine.ask_of y.call) (sym same) ∙ (call_asks (after m answer) (Ask_done (Reply_refused refused)) ends).1

        step : IsOwnStep m answer
        step = record { told = told; phase = phase; is = is; call = ap (λ (y : Machine). y.call) same; goes_on = ap (λ (y : Machine). y.phase) same ∙ phase }

        by_reason : IsReason m.call refused m.call.made m.call.state told → IsOwnRefusal m answer refused
        by_reason (inl made) = record { own = step; why = inl (makes told phase is made.0 made.1, made.0) }
        by_reason (inr (inl (full, (need, grows)))) = let by_word = growing_word m.call need refused told grows then in
            absurd (no_table need by_word.0 grows by_word.1)
        by_reason (inr (inr (inl (full, over, making)))) = record { own = step; why = inr (inl (full, over)) }
        by_reason (inr (inr (inr (none, (gap, offers), removes)))) =
            record {
              own = step;
              why = inr (inr (
                none,
                ap (asks_in m.call) phase
                    ∙ ap (λ stage. asked.Call (asks m.call.made m.call.hash stage)) offers,
                removes,
              ));
            }

    called_why : (told : Call_answer) → m.phase ≡ Calling → answer ≡ answers.Call told → IsStep m told (called m told) → IsOwnRefusal m answer refused
    called_why told phase is (inl (same, no_table)) = own_why told phase is (ap (after_in m answer) phase ∙ ap (answered m) is ∙ same) no_table
    called_why told phase is (inr none) = absurd
        (cc (sym (ap (λ y. of_asked (ask_of y)) (ap (after_in m answer) phase ∙ ap (answered m) is)) ∙ ap of_asked ends, none))

    -- in each phase
    phase_why : (phase : Phase) → m.phase ≡ phase → IsInOrder m answer phase → IsCause m answer refused
    phase_why Calling e order = inl (called_why order.0 e order.1 (called_steps m order.0))
    phase_why (Linking made) e order =
        inr (record {
          from = order.0;
          left = order.1;
          why = made_why made (ap link_in e) (ap (asks_in m.call) e)
              (linked_ends m refused (link_after made m.call.mode m.call.initial answer) (ended (Linking made) e));
        })
      where
        ended : (phase : Phase) → m.phase ≡ phase → of_asked (ask_of (after_in m answer phase)) ≡ Some refused
        ended phase e = sym (ap (λ p. of_asked (ask_of (after_in m answer p))) e) ∙ ap of_asked ends
    phase_why (Copying_root goes) e order =
        inr (record {
          from = order.0;
          left = order.1;
          why = held_why goes e (link_in_copying goes) refl
              (copying_ends goes m.call.mode m.call.initial m.number answer refused
              (copied_ends m order.0 order.1 refused (copying_after goes m.call.mode m.call.initial m.number answer) (ended (Copying_root goes) e)));
        })
      where
        ended : (phase : Phase) → m.phase ≡ phase → of_asked (ask_of (after_in m answer phase)) ≡ Some refused
        ended phase e = sym (ap (λ p. of_asked (ask_of (after_in m answer p))) e) ∙ ap of_asked ends

    -- for the whole machine
    machine_why : IsInOrder m answer m.phase → IsCause m answer refused
    machine_why order = phase_why m.phase refl order

module _ {K P : Type 0} (g : Setting K P) (c : Coding K P) (k : K) (s : State P) (m : Machine) (answer : Answer) (refused : Refused)
    (loaded : LoadedPairs P) (es : List (Exchange_made P)) (loaded' : LoadedPairs P)
    (tells : IsTrueOf g c k s (kind_of_ask m) (follows_of m) loaded (ask_of m) answer es loaded') where
  -- only an ask to make a part has an answer with a failure
  abbrev IsMadeAsk : Call_ask → Type 0
  IsMadeAsk ask = (kind : Option StepKind) (call' : call_told.LoadedPairs P)
      → call_told.IsTrueOf g c k s kind loaded.call ask (Was_refused refused) es call' → IsToMake ask

  -- an exchange has no such answer
  exchange_told : (at : At) (old new : ℕ) → IsMadeAsk (Exchange at old new)
  exchange_told at old new kind call' h =
      by_test (call_told.word_of g c s at == old)
      ((Was_refused refused ≡ Exchanged) × ((e : Exchange_made P) × call_told.IsAsked g c k kind at new s loaded.call e × (es ≡ e ∷ []))
      × (call' ≡ loaded.call))
      ((Was_refused refused ≡ Found_instead (call_told.word_of g c s at)) × (es ≡ []) × (call' ≡ call_told.told_of s at loaded.call))
      ⊥ h (λ stands told. absurd (cc told.0)) (λ other told. absurd (cc told.0))

  each_told : HoldsOfPairAsks IsMadeAsk
  each_told = record {
    loads = λ kind call' h. absurd (let none = h.0 in cc none);
    takes = λ count. exchange_told Made_word count (count + 1);
    key = λ kind call' h. tt;
    value = λ kind call' h. tt;
    pair = λ kind call' h. tt;
    pair_of = λ n kind call' h. tt;
  }

  making_told : (made : Made) (hash : ℕ) (kind : Option StepKind) (call' : call_told.LoadedPairs P) (stage : Stage) → IsMaking stage
      → call_told.IsTrueOf g c k s kind loaded.call (asks made hash stage) (Was_refused refused) es call' → IsToMake (asks made hash stage)
  making_told made hash kind call' Making makes h = tt
  making_told made hash kind call' (Writing write) makes h = write_holds IsMadeAsk each_told write
      (λ n. exchange_told (Slot write.place.table write.place.probe.i) write.old (live_word n)) made kind call' h
  making_told made hash kind call' (Pairing purpose) makes h = pair_holds IsMadeAsk each_told made (in_place_of purpose) kind call' h
  making_told made hash kind call' stage makes h = absurd makes

  makes_told : Makes m answer refused
  makes_told told phase is refuses making =
      let h = subst (λ phase. IsTrueOf g c k s (kind_in m.call phase) (follows_of m) loaded (asks_in m.call phase) answer es loaded') phase tells in
      let same : h.told ≡ Was_refused refused = cc (h.is, is, refuses) in
      making_told m.call.made m.call.hash (call_machine.kind_of_ask m.call) h.call m.call.state making
      (subst (λ a. call_told.IsTrueOf g c k s (call_machine.kind_of_ask m.call) loaded.call (call_machine.ask_of m.call) a es h.call) same h.tells)

  -- for a machine that receives an answer
  pub chain_refused : IsInOrder m answer m.phase → ((reply : Reply) → ask_of m ≡ asked.Call (Ask_done reply) → ⊥)
      → ask_of (after m answer) ≡ asked.Call (Ask_done (Reply_refused refused)) → IsCause m answer refused
  chain_refused order open_still ends = machine_why m answer refused makes_told open_still ends order
