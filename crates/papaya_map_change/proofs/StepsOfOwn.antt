-- A machine over a chain in phase `Calling`, and its state after an answer: the call takes a step,
-- is set aside, or continues in the next table directly.
use Rattle.std.proofs.Common.{◌≡◌, ◌⊎◌, inl, inr, ⊎_elim, ℕ, ◌==◌, Bool, true, false, cond, Option, None, Some, List, refl, sym, ap, ◌∙◌, subst}
use Rattle.std.proofs.lemmas.Bool.{cond_both, cond-false}
use Rattle.papaya_words.specs.declared.resize_mode.ResizeMode.{ResizeMode}
use Rattle.papaya_words.specs.declared.resize_mode.ResizeMode.TheVariants.{Incremental, Blocking}
use Rattle.papaya_call.specs.declared.ask.Answer.{Answer}
use Rattle.papaya_call.specs.declared.ask.Answer.TheVariants.{Word as Word_read, Exchanged}
use Rattle.papaya_call.specs.declared.ask.Answer.TheVariants.{Found as Found_instead, Yes, Op, Size}
use Rattle.papaya_call.specs.declared.ask.Answer.TheVariants.{Made as Made_number, Ok as Ok_done}
use Rattle.papaya_call.specs.declared.ask.Answer.TheVariants.{Refused as Was_refused}
use Rattle.papaya_call.specs.declared.ask.Ask.{Ask}
use Rattle.papaya_call.specs.declared.ask.Ask.TheVariants.{Load, Exchange, SizeOf, MakeTable}
use Rattle.papaya_call.specs.declared.ask.At.{At}
use Rattle.papaya_call.specs.declared.ask.At.TheVariants.{Root, Next}
use Rattle.papaya_call.specs.declared.ask.StepKind.{StepKind}
use Rattle.papaya_call.specs.declared.ask.StepKind.TheVariants as kinds
use Rattle.papaya_call.specs.declared.copy_ask.CopyAsk.{CopyAsk}
use Rattle.papaya_call.specs.declared.call.Task.{Task}
use Rattle.papaya_call.specs.declared.call.Task.TheVariants.{Get, Insert, RemoveIf, Compute}
use Rattle.papaya_call.specs.declared.search.Search.TheVariants.{Sizing}
use Rattle.papaya_call.specs.declared.machine.Machine.{Machine as Call_machine}
use Rattle.papaya_call.specs.declared.machine.State.{State}
use Rattle.papaya_call.specs.declared.machine.State.TheVariants.{AtRoot, Making, Opening, Searching}
use Rattle.papaya_call.specs.declared.machine.State.TheVariants.{Writing, Offering, Showing}
use Rattle.papaya_call.specs.declared.machine.State.TheVariants.{Pairing, Putting, Burying}
use Rattle.papaya_call.specs.declared.machine.State.TheVariants.{Counting, Noting, Uncounting}
use Rattle.papaya_call.specs.declared.machine.State.TheVariants.{Leaving, Growing, Ended}
use Rattle.papaya_call.specs.declared.need.Need.{Need}
use Rattle.papaya_call.specs.declared.made.Made.{Made}
use Rattle.papaya_call.specs.declared.made.Number.{Number}
use Rattle.papaya_call.specs.declared.made.Number.TheVariants.{Wanted, Free, Taken}
use Rattle.papaya_call.specs.declared.write.Write.{Write}
use Rattle.papaya_call.specs.Made.{number_kind}
use Rattle.papaya_call.specs.Machine.{served_kind}
use Rattle.papaya_call.specs.Write.{serves}
use Rattle.papaya_call.specs.Machine as calls
use Rattle.papaya_call.specs.Machine.{needed}
use Rattle.papaya_call.specs.declared.copy.copying.Aim.{Aim}
use Rattle.papaya_call.specs.declared.copy.copying.Aim.TheVariants as aims
use Rattle.papaya_call.specs.declared.copy.copying.Copying.TheVariants.{Stepping, Lone}
use Rattle.papaya_call.specs.declared.copy.link.Link.TheVariants as links
use Rattle.papaya_call.specs.declared.copy.settle.Settle.TheVariants.{Looking as Looking_to_settle}
use Rattle.papaya_call.specs.declared.copy.step.Step.TheVariants.{AtRoot as At_root}
use Rattle.papaya_call.specs.declared.chain.ask.Ask.{Ask as Chain_ask}
use Rattle.papaya_call.specs.declared.chain.ask.Ask.TheVariants as asked
use Rattle.papaya_call.specs.declared.chain.ask.Answer.TheVariants as answers
use Rattle.papaya_call.specs.declared.chain.machine.Machine.{Machine}
use Rattle.papaya_call.specs.declared.chain.machine.Phase.{Phase}
use Rattle.papaya_call.specs.declared.chain.machine.Phase.TheVariants.{Calling, Linking, Copying as Copying_root}
use Rattle.papaya_call.specs.ChainMachine.{after, after_in, aim_for, ask_of, asks_in, called}
use Rattle.papaya_call.specs.ChainMachine.{follows_of, goes_on, grows_as, kind_in, kind_of_ask, leaves}
use Rattle.papaya_call.specs.ChainMachine.{onward, stepped, told_next}
use Rattle.papaya_call.proofs.Settings.{settings_stable}
use Rattle.papaya_words_law.specs.Code.{Coding, IsHashed}
use Rattle.papaya_words_law.specs.Exchange.{Exchange as Law_exchange, Setting, State as Words}
use Rattle.papaya_call_law.specs.Followed.{IsAtTable, told_table}
use Rattle.papaya_call_law.specs.Relies.{change_after, change_in}
use Rattle.papaya_call_law.specs.TrueAnswers as told_calls
use Rattle.papaya_call_law.proofs.Followed.{opens_once, table_told}
use Rattle.papaya_call_law.proofs.ReliesOpened.{machine_opened}
use Rattle.papaya_call_law.specs.Goes.{IsInOrder, link_in}
use Rattle.papaya_call_law.specs.ChainRelies.{left_by}
use Rattle.papaya_call_law.specs.ChainAnswers.{IsTrueOf, LoadedPairs}
use Rattle.papaya_call_law.proofs.Names.{call_asks}
use Rattle.papaya_call_law.proofs.Replies.{aside_asks, chain_changes}
use Rattle.papaya_map_book.specs.Logs.{Stored}
use Rattle.papaya_map_book.specs.Plays.{IsCallAsked, IsWished, loaded_of}
use Rattle.papaya_map_change.specs.Changing.{IsBringing, IsSizedBy}

-- a call in phase `Calling` has its call's ask, and exchanges of that kind
pub calling_asks : (m : Machine) → m.phase ≡ Calling → ask_of m ≡ asked.Call (calls.ask_of m.call)
calling_asks m e = ap (asks_in m.call) e

pub never_copies : (m : Machine) → m.phase ≡ Calling → (ask : CopyAsk) → ask_of m ≡ asked.Copy ask → ⊥
never_copies m e ask copies = let f = sym (calling_asks m e) ∙ copies in cc f

pub own_kind : (m : Machine) → m.phase ≡ Calling → kind_of_ask m ≡ calls.kind_of_ask m.call
own_kind m e = ap (kind_in m.call) e

-- an exchange of this kind is a call's own, and no copy's
abbrev pub IsCallKind : Option StepKind → Type 0
IsCallKind None = Unit {0}
IsCallKind (Some kinds.Open) = Unit {0}
IsCallKind (Some kinds.Claim) = Unit {0}
IsCallKind (Some kinds.Replace) = Unit {0}
IsCallKind (Some kinds.Bury) = Unit {0}
IsCallKind (Some kinds.Take) = Unit {0}
IsCallKind _ = ⊥

number_kind_is : (number : Number) → IsCallKind (number_kind number)
number_kind_is Wanted = tt
number_kind_is (Free count) = tt
number_kind_is Taken = tt

served_kind_is : (made : Made) (write : Write) (served : Option ℕ) → IsCallKind (served_kind served made write)
served_kind_is made write None = number_kind_is made.number
served_kind_is made write (Some n) = cond_both (write.old == 0) kinds.Claim kinds.Replace (λ z. IsCallKind (Some z)) (λ _. tt) (λ _. tt)

kind_asked_is : (made : Made) (s : State) → IsCallKind (calls.kind_asked made s)
kind_asked_is made AtRoot = tt
kind_asked_is made Making = tt
kind_asked_is made (Opening t) = tt
kind_asked_is made (Searching search) = tt
kind_asked_is made (Writing write) = served_kind_is made write (serves made write)
kind_asked_is made (Offering gap) = tt
kind_asked_is made (Showing removal) = tt
kind_asked_is made (Pairing purpose) = number_kind_is made.number
kind_asked_is made (Putting put) = cond_both (put.write.old == 0) kinds.Claim kinds.Replace (λ z. IsCallKind (Some z)) (λ _. tt) (λ _. tt)
kind_asked_is made (Burying removal) = tt
kind_asked_is made (Counting n) = tt
kind_asked_is made (Noting n) = tt
kind_asked_is made (Uncounting n) = tt
kind_asked_is made (Leaving t) = tt
kind_asked_is made (Growing need) = tt
kind_asked_is made (Ended reply) = tt

-- the asks of a call in phase `Calling` are of its own kinds
pub own_kind_is : (m : Machine) → m.phase ≡ Calling → IsCallKind (kind_of_ask m)
own_kind_is m e = subst IsCallKind (sym (own_kind m e)) (kind_asked_is m.call.made m.call.state)

-- if such an exchange was asked for, it was the call's and no copy's
pub asked_by_call : {K V : Type 0} (kind : Option StepKind) → IsCallKind kind
    → (at : At) (new : ℕ) (s : Words (Stored K V)) (made : Option (Stored K V)) (e : Law_exchange (Stored K V)) → IsWished kind at new s made e
    → IsCallAsked kind at new s (loaded_of made) e
asked_by_call kind own at new s made e (inl asks) = asks
asked_by_call None own at new s made e (inr copies) = absurd copies
asked_by_call (Some kinds.Open) own at new s made e (inr copies) = absurd copies
asked_by_call (Some kinds.Claim) own at new s made e (inr copies) = absurd copies
asked_by_call (Some kinds.Replace) own at new s made e (inr copies) = absurd copies
asked_by_call (Some kinds.Bury) own at new s made e (inr copies) = absurd copies
asked_by_call (Some kinds.Take) own at new s made e (inr copies) = absurd copies
asked_by_call (Some kinds.Link) own at new s made e (inr copies) = absurd own
asked_by_call (Some kinds.Mark) own at new s made e (inr copies) = absurd own
asked_by_call (Some kinds.Close) own at new s made e (inr copies) = absurd own
asked_by_call (Some kinds.Place) own at new s made e (inr copies) = absurd own
asked_by_call (Some kinds.Finish) own at new s made e (inr copies) = absurd own
asked_by_call (Some kinds.Advance) own at new s made e (inr copies) = absurd own
asked_by_call (Some kinds.Promote) own at new s made e (inr copies) = absurd own
asked_by_call (Some kinds.Abort) own at new s made e (inr copies) = absurd own

-- a call was just set aside
abbrev pub IsSetAside : Phase → Type 0
IsSetAside (Linking (links.Sizing t copied unfit)) = Unit {0}
IsSetAside (Copying_root (Stepping aim At_root)) = Unit {0}
IsSetAside (Copying_root (Lone slot Looking_to_settle)) = Unit {0}
IsSetAside _ = ⊥

-- the call took a step of its own
abbrev IsStepped : Machine → Answer → Machine → Type 0
IsStepped m answer m' = (m'.call ≡ calls.after m.call answer) × (m'.phase ≡ Calling)

-- it was set aside unchanged
abbrev IsAside : Machine → Machine → Type 0
IsAside m m' = (t : ℕ) × (left_by m.call.state ≡ Some t) × (m'.call ≡ m.call) × IsSetAside m'.phase

-- it continues in the next table, whose number it received
abbrev HasEntered : Machine → Answer → Machine → Type 0
HasEntered m answer m' = (t : ℕ) × (next : ℕ) × (left_by m.call.state ≡ Some t) × (answer ≡ Word_read next) × ((next == 0) ≡ false)
    × (m'.call ≡ record m.call { state = Searching (Sizing next) }) × (m'.phase ≡ Calling)

abbrev Leaves : Machine → Answer → Machine → Type 0
Leaves m answer m' = IsAside m m' ⊎ HasEntered m answer m'

abbrev pub Went : Machine → Answer → Machine → Type 0
Went m answer m' = IsStepped m answer m' ⊎ Leaves m answer m'

module _ (m : Machine) (calling : m.phase ≡ Calling) where
  steps : (answer : Answer) → Went m answer (stepped m answer)
  steps answer = inl (refl, calling)

  module _ (word t : ℕ) (left : left_by m.call.state ≡ Some t) where
    aside : (helped : Bool) (aim : Aim) → (word == 0) ≡ false → Leaves m (Word_read word) (goes_on m helped aim word)
    aside false aim some = inl (t, left, refl, tt)
    aside true (aims.Settle slot) some = inl (t, left, refl, tt)
    aside true (aims.Search table) some = inr (t, word, left, refl, some, refl, refl)
    aside true aims.Chunk some = inr (t, word, left, refl, some, refl, refl)
    aside true (aims.All met) some = inr (t, word, left, refl, some, refl, refl)

    -- there is no next table, or there is one
    either : Went m (Word_read word) (cond (word == 0) (stepped m (Word_read word)) (onward m word))
    either = cond_both (word == 0) (stepped m (Word_read word)) (onward m word) (Went m (Word_read word)) (λ _. steps (Word_read word))
        (λ some. inr (aside m.helped (aim_for m.call.state word) some))

    leaves_went : (task : Task) → Went m (Word_read word) (leaves m task word)
    leaves_went Get = steps (Word_read word)
    leaves_went (Insert replace) = either
    leaves_went RemoveIf = either
    leaves_went Compute = either

    grows_went : (mode : ResizeMode) (need : Need) → Leaves m (Word_read word) (grows_as m mode need word)
    grows_went Blocking need = inl (t, left, refl, tt)
    grows_went (Incremental chunk) need = cond_both (word == 0) (record m { phase = Linking (links.Sizing (needed need) (needed need) false) })
        (onward m word) (Leaves m (Word_read word)) (λ _. inl (t, left, refl, tt)) (λ some. aside m.helped (aim_for m.call.state word) some)

  next_went : (word : ℕ) (s : State) → m.call.state ≡ s → Went m (Word_read word) (told_next m s word)
  next_went word (Leaving t) e = leaves_went word t (ap left_by e) m.call.task
  next_went word (Growing need) e = inr (grows_went word (needed need) (ap left_by e) m.call.mode need)
  next_went word s e = steps (Word_read word)

  called_went : (answer : Answer) → Went m answer (called m answer)
  called_went (Word_read word) = next_went word m.call.state refl
  called_went Exchanged = steps Exchanged
  called_went (Found_instead word) = steps (Found_instead word)
  called_went (Yes same) = steps (Yes same)
  called_went (Op kind) = steps (Op kind)
  called_went (Size slots limit) = steps (Size slots limit)
  called_went (Made_number n) = steps (Made_number n)
  called_went Ok_done = steps Ok_done
  called_went (Was_refused refused) = steps (Was_refused refused)

  -- the state of a machine after an answer to its call
  pub own_went : (answer : Answer) → Went m answer (after m (answers.Call answer))
  own_went answer = subst (Went m answer) (sym (ap (after_in m (answers.Call answer)) calling)) (called_went answer)

-- a call that needs a next table is set aside, or continues there
pub grown_leaves : (m : Machine) → m.phase ≡ Calling → (need : Need) → m.call.state ≡ Growing need → (word : ℕ)
    → Leaves m (Word_read word) (after m (answers.Call (Word_read word)))
grown_leaves m calling need grows word =
    subst (Leaves m (Word_read word)) (sym (ap (after_in m (answers.Call (Word_read word))) calling ∙ ap (λ (s : State). told_next m s word) grows))
    (grows_went m calling word (needed need) (ap left_by grows) m.call.mode need)

-- a call that was just set aside has no ask of its own
pub aside_asks_none : (call : Call_machine) (phase : Phase) → IsSetAside phase → (ask : Ask) → asks_in call phase ≡ asked.Call ask → ⊥
aside_asks_none call Calling aside ask e = aside
aside_asks_none call (Linking link) aside ask e = cc e
aside_asks_none call (Copying_root copying) aside ask e = cc e

aside_calls : (phase : Phase) → IsSetAside phase → phase ≡ Calling → ⊥
aside_calls Calling aside e = aside
aside_calls (Linking link) aside e = cc e
aside_calls (Copying_root copying) aside e = cc e

-- a call that was just set aside brings no table
aside_brings : (call : Call_machine) (phase : Phase) → IsSetAside phase → (n : ℕ) → IsBringing (asks_in call phase) n → ⊥
aside_brings call (Linking (links.Sizing t copied unfit)) aside n brings = brings
aside_brings call (Copying_root (Stepping aim At_root)) aside n brings = brings
aside_brings call (Copying_root (Lone slot Looking_to_settle)) aside n brings = brings
aside_brings call _ aside n brings = absurd aside

-- nor does it count yet for one
aside_counts : (tables : List ℕ) (phase : Phase) → IsSetAside phase → IsSizedBy tables (link_in phase)
aside_counts tables (Linking (links.Sizing t from before)) aside = tt
aside_counts tables (Copying_root (Stepping aim At_root)) aside = tt
aside_counts tables (Copying_root (Lone slot Looking_to_settle)) aside = tt
aside_counts tables _ aside = absurd aside

-- nor is it about to link one
aside_links : (phase : Phase) → IsSetAside phase → (behind n chunks : ℕ) → link_in phase ≡ Some (links.Linking behind n chunks) → ⊥
aside_links (Linking (links.Sizing t from before)) aside behind n chunks e = cc e
aside_links (Copying_root (Stepping aim At_root)) aside behind n chunks e = cc e
aside_links (Copying_root (Lone slot Looking_to_settle)) aside behind n chunks e = cc e
aside_links _ aside behind n chunks e = absurd aside

-- a call brings a table that it opens
brought_root : (ask : Ask) (n : ℕ) → IsBringing (asked.Call ask) n → ask ≡ Exchange Root 0 n
brought_root (Exchange Root old new) n brings = λ i. Exchange Root (brings.0 i) (brings.1 i)
brought_root ask n brings = absurd brings

-- a call brings a table only if it asks for its exchange, or after it asked to make one
abbrev pub IsBarren : Ask → Type 0
IsBarren (Exchange Root old new) = ⊥
IsBarren (MakeTable slots limit chunks) = ⊥
IsBarren _ = Unit {0}

module _ (m : Machine) (calling : m.phase ≡ Calling) (answer : Answer) where
  abbrev m' : Machine
  m' = after m (answers.Call answer)

  -- the table received last is the one that it is in, while it is in phase `Calling`
  pub own_at : (n : ℕ) → IsAtTable n m.call.state → m'.phase ≡ Calling → IsAtTable (told_table (calls.ask_of m.call) answer n) m'.call.state
  own_at n at still = elim (own_went m calling answer) [
    | inl h ↦ subst (λ (z : Call_machine). IsAtTable (told_table (calls.ask_of m.call) answer n) z.state) (sym h.0) (table_told m.call answer n at)
    | inr (inl h) ↦ absurd (aside_calls m'.phase h.3 still)
    | inr (inr h) ↦
        let told : told_table (calls.ask_of m.call) answer n ≡ h.1 =
        ap (λ (a : Ask). told_table a answer n) (aside_asks m.call.made m.call.hash m.call.state h.0 h.2)
        ∙ (ap (λ (a : Answer). told_table (Load (Next h.0)) a n) h.3 ∙ cond-false (h.1 == 0) n h.1 h.4) in
        subst (λ (z : Call_machine). IsAtTable (told_table (calls.ask_of m.call) answer n) z.state) (sym h.5) (sym told)
  ]

  -- after the answer it brings a table that it received, or that it brought before
  pub own_brings : (n : ℕ) → IsBringing (ask_of m') n
      → ((answer ≡ Made_number n) × ((slots : ℕ) × (limit : ℕ) × (calls.ask_of m.call ≡ MakeTable slots limit 0))) ⊎ (calls.ask_of m.call ≡ Exchange Root 0 n)
  own_brings n brings = elim (own_went m calling answer) [
    | inl h ↦
        let asks : ask_of m' ≡ asked.Call (calls.ask_of (calls.after m.call answer)) = calling_asks m' h.1
        ∙ ap (λ (z : Call_machine). asked.Call (calls.ask_of z)) h.0 in
        machine_opened m.call n answer (brought_root (calls.ask_of (calls.after m.call answer)) n (subst (λ (a : Chain_ask). IsBringing a n) asks brings))
    | inr (inl h) ↦ absurd (aside_brings m'.call m'.phase h.3 n brings)
    | inr (inr h) ↦
        let asks : ask_of m' ≡ asked.Call (SizeOf h.1) = calling_asks m' h.6 ∙ ap (λ (z : Call_machine). asked.Call (calls.ask_of z)) h.5 in
        absurd (subst (λ (a : Chain_ask). IsBringing a n) asks brings)
  ]

  -- after the answer it counts for no table
  pub own_counts : (tables : List ℕ) → IsSizedBy tables (link_in m'.phase)
  own_counts tables = elim (own_went m calling answer) [
    | inl h ↦ subst (IsSizedBy tables) (sym (ap link_in h.1)) tt
    | inr (inl h) ↦ aside_counts tables m'.phase h.3
    | inr (inr h) ↦ subst (IsSizedBy tables) (sym (ap link_in h.6)) tt
  ]

  -- and is about to link none
  pub own_links : (behind n chunks : ℕ) → link_in m'.phase ≡ Some (links.Linking behind n chunks) → ⊥
  own_links behind n chunks e = elim (own_went m calling answer) [
    | inl h ↦ let f : None ≡ Some (links.Linking behind n chunks) = sym (ap link_in h.1) ∙ e in cc f
    | inr (inl h) ↦ aside_links m'.phase h.3 behind n chunks e
    | inr (inr h) ↦ let f : None ≡ Some (links.Linking behind n chunks) = sym (ap link_in h.6) ∙ e in cc f
  ]

  -- none, after another ask
  pub own_barren : (ask : Ask) → calls.ask_of m.call ≡ ask → IsBarren ask → (n : ℕ) → IsBringing (ask_of m') n → ⊥
  own_barren ask asks barren n brings =
      ⊎_elim
      (λ made. subst IsBarren (sym asks ∙ made.1.2) barren)
      (λ opens. subst IsBarren (sym asks ∙ opens) barren)
      (own_brings n brings)

  -- the machine receives each answer that the call receives
  pub own_told : {K P : Type 0} (g : Setting K P) (c : Coding K P) (k : K) (s : Words P) (loaded : LoadedPairs P) (es : List (Law_exchange P))
      (call : told_calls.LoadedPairs P) (ask : Ask) → calls.ask_of m.call ≡ ask → told_calls.IsTrueOf g c k s (kind_of_ask m) loaded.call ask answer es call
      → IsTrueOf g c k s (kind_of_ask m) (follows_of m) loaded (ask_of m) (answers.Call answer) es (record loaded { call = call })
  own_told g c k s loaded es call ask asks tells =
      subst (λ (a : Chain_ask). IsTrueOf g c k s (kind_of_ask m) (follows_of m) loaded a (answers.Call answer) es (record loaded { call = call }))
      (sym (calling_asks m calling ∙ ap (λ a. asked.Call a) asks))
      (record { told = answer; is = refl; call = call; tells = tells; handed = refl })

  pub own_order : IsInOrder m (answers.Call answer) m.phase
  own_order = subst (IsInOrder m (answers.Call answer)) (sym calling) (answer, refl)

  -- its changes after the answer
  pub own_changes : {K P : Type 0} (g : Setting K P) (c : Coding K P) → IsHashed g c → (k : K) → m.call.hash ≡ c.hash k
      → (s : Words P) (loaded : LoadedPairs P) (es : List (Law_exchange P)) (call : told_calls.LoadedPairs P) (ask : Ask) → calls.ask_of m.call ≡ ask
      → told_calls.IsTrueOf g c k s (kind_of_ask m) loaded.call ask answer es call
      → change_in m'.call.state ≡ change_after (kind_of_ask m) ask answer (change_in m.call.state)
  own_changes g c hashed k hash s loaded es call ask asks tells =
      chain_changes g c k s m loaded (answers.Call answer) es (record loaded { call = call }) own_order
      (own_told g c k s loaded es call ask asks tells) hashed hash
      ∙ ap (λ (a : Chain_ask). Rattle.papaya_call_law.specs.Goes.change_by (kind_of_ask m) a (answers.Call answer) (change_in m.call.state))
      (calling_asks m calling ∙ ap (λ a. asked.Call a) asks)

  -- the map's first capacity stays
  pub own_settings : (m'.call.initial ≡ m.call.initial) × (m'.call.made ≡ (calls.after m.call answer).made ⊎ (m'.call.made ≡ m.call.made))
  own_settings = elim (own_went m calling answer) [
    | inl h ↦ (ap (λ (z : Call_machine). z.initial) h.0 ∙ (settings_stable m.call answer).1, inl (ap (λ (z : Call_machine). z.made) h.0))
    | inr (inl h) ↦ (ap (λ (z : Call_machine). z.initial) h.2, inr (ap (λ (z : Call_machine). z.made) h.2))
    | inr (inr h) ↦ (ap (λ (z : Call_machine). z.initial) h.5, inr (ap (λ (z : Call_machine). z.made) h.5))
  ]

-- after it has tried to open its table it brings none
pub opened_once : (m : Machine) (t : ℕ) → ask_of m ≡ asked.Call (Exchange Root 0 t) → (answer : Answer) → (answer ≡ Exchanged)
    ⊎ ((word : ℕ) × (answer ≡ Found_instead word)) → (n : ℕ) → IsBringing (ask_of (after m (answers.Call answer))) n → ⊥
opened_once m t asks answer tried n brings =
    let own = call_asks m (Exchange Root 0 t) asks in
    elim (own_went m own.0 answer) [
      | inl h ↦
          let m' : Machine = after m (answers.Call answer) in
          let then : ask_of m' ≡ asked.Call (calls.ask_of (calls.after m.call answer)) = calling_asks m' h.1
          ∙ ap (λ (z : Call_machine). asked.Call (calls.ask_of z)) h.0 in
          opens_once m.call answer t n own.1 tried
          (brought_root (calls.ask_of (calls.after m.call answer)) n (subst (λ (a : Chain_ask). IsBringing a n) then brings))
      | inr (inl h) ↦ aside_brings (after m (answers.Call answer)).call (after m (answers.Call answer)).phase h.3 n brings
      | inr (inr h) ↦ ⊎_elim (λ e. let f = sym h.3 ∙ e in cc f) (λ e. let f = sym h.3 ∙ e.1 in cc f) tried
    ]
