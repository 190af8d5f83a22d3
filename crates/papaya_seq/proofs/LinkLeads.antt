-- The making of a table after an answer: it begins with this answer, or it was under way before it.
use Rattle.std.proofs.Common.{◌≡◌, ◌⊎◌, inl, inr, ℕ, Option, None, Some, refl, sym, ap, subst}
use Rattle.papaya_words.specs.declared.refused.Refused.{Refused}
use Rattle.papaya_words.specs.declared.resize_mode.ResizeMode.{ResizeMode}
use Rattle.papaya_call.specs.declared.ask.Answer.TheVariants as told
use Rattle.papaya_call.specs.declared.copy.carry.Carry.{Carry}
use Rattle.papaya_call.specs.declared.copy.carry.Carry.TheVariants as carries
use Rattle.papaya_call.specs.declared.copy.copying.Aim.{Aim}
use Rattle.papaya_call.specs.declared.copy.copying.Copied.{Copied}
use Rattle.papaya_call.specs.declared.copy.copying.Copied.TheVariants as copied
use Rattle.papaya_call.specs.declared.copy.copying.Copying.{Copying}
use Rattle.papaya_call.specs.declared.copy.copying.Copying.TheVariants.{Stepping, Lone}
use Rattle.papaya_call.specs.declared.copy.link.Link.{Link}
use Rattle.papaya_call.specs.declared.copy.link.Link.TheVariants as links
use Rattle.papaya_call.specs.declared.copy.link.Linked.{Linked}
use Rattle.papaya_call.specs.declared.copy.link.Linked.TheVariants as linked
use Rattle.papaya_call.specs.declared.copy.settle.Settle.{Settle}
use Rattle.papaya_call.specs.declared.copy.settle.Settle.TheVariants as settles
use Rattle.papaya_call.specs.declared.copy.settle.SlotToCopy.{SlotToCopy}
use Rattle.papaya_call.specs.declared.copy.step.Chunk.{Chunk}
use Rattle.papaya_call.specs.declared.copy.step.Step.TheVariants as steps
use Rattle.papaya_call.specs.Carry as carry
use Rattle.papaya_call.specs.Copying as copying
use Rattle.papaya_call.specs.Link as link
use Rattle.papaya_call.specs.Settle as settle
use Rattle.papaya_call.specs.Step as step
use Rattle.papaya_call.specs.declared.chain.ask.Answer.{Answer}
use Rattle.papaya_call.specs.declared.chain.ask.Answer.TheVariants as answers
use Rattle.papaya_call.specs.declared.chain.machine.Machine.{Machine}
use Rattle.papaya_call.specs.declared.chain.machine.Phase.{Phase}
use Rattle.papaya_call.specs.declared.chain.machine.Phase.TheVariants.{Calling, Linking, Copying as Copying_root}
use Rattle.papaya_call.specs.ChainMachine.{after, after_copied, after_in, after_linked, copying_after, link_after, onward}
use Rattle.papaya_call_law.specs.Copier.{link_in_carry, link_in_copying, link_in_settle}
use Rattle.papaya_call_law.specs.Goes.{link_in}
use Rattle.papaya_call_law.proofs.LinkStates as states
use Rattle.papaya_call_law.proofs.LinkStates.{In, IsStable, Linked_in, Of}

-- the making of a table begins
abbrev pub IsBegun : Link → Type 0
IsBegun (links.Sizing behind copied unfit) = Unit {0}
IsBegun _ = ⊥

-- there is no size for it
abbrev Never : Link → ℕ → Type 0
Never made n = ⊥

abbrev Always : Link → ℕ → Type 0
Always made n = Unit {0}

-- only a size advances it past its begin
begun_made : (made : Link) (n : ℕ) → IsBegun made → IsBegun (link.at_made made n)
begun_made (links.Making behind slots limit chunks) n h = h
begun_made other n h = h

begun_count : (made : Link) (mode : ResizeMode) (count initial : ℕ) → IsBegun made → Linked_in IsBegun (link.at_count made mode count initial)
begun_count (links.Counting behind unfit slots copied) mode count initial h = absurd h
begun_count other mode count initial h = h

begun_refused : (made : Link) (refused : Refused) → IsBegun made → Linked_in IsBegun (link.at_refused made refused)
begun_refused (links.Making behind slots limit chunks) refused h = tt
begun_refused other refused h = h

begun_exchanged : (made : Link) → IsBegun made → Linked_in IsBegun (link.at_exchanged made)
begun_exchanged (links.Linking behind table chunks) h = tt
begun_exchanged other h = h

begun_found : (made : Link) (word : ℕ) → IsBegun made → Linked_in IsBegun (link.at_found made word)
begun_found (links.Linking behind table chunks) word h = tt
begun_found other word h = h

begun_stable : IsStable IsBegun Never Always
begun_stable = record {
  fresh = λ behind copied unfit. tt;
  sizes = λ made slots never h. absurd never;
  makes = λ made n any h. begun_made made n h;
  counts = begun_count;
  refuses = begun_refused;
  exchanges = begun_exchanged;
  finds = begun_found;
}

-- if a copy makes a table, the answer is for the making
step_form : (initial number : ℕ) (mode : ResizeMode) (aim : Aim) (from : ℕ) (made : Link) (answer : Answer)
    → copying_after (Stepping aim (steps.Linking from made)) mode initial number answer ≡ copying.leads aim mode
    (step.linked_to from (link_after made mode initial answer))
step_form initial number mode aim from made (answers.Call (told.Word word)) = refl
step_form initial number mode aim from made (answers.Call told.Exchanged) = refl
step_form initial number mode aim from made (answers.Call (told.Found word)) = refl
step_form initial number mode aim from made (answers.Call (told.Yes same)) = refl
step_form initial number mode aim from made (answers.Call (told.Op kind)) = refl
step_form initial number mode aim from made (answers.Call (told.Size slots limit)) = refl
step_form initial number mode aim from made (answers.Call (told.Made n)) = refl
step_form initial number mode aim from made (answers.Call told.Ok) = refl
step_form initial number mode aim from made (answers.Call (told.Refused refused)) = refl
step_form initial number mode aim from made (answers.Hash hash) = refl
step_form initial number mode aim from made (answers.Count count) = refl

settle_form : (initial number : ℕ) (mode : ResizeMode) (aim : Aim) (chunk : Chunk) (marked hash : ℕ) (made : Link) (answer : Answer)
    → copying_after (Stepping aim (steps.Settling chunk (settles.Carrying marked (carries.Linking hash made)))) mode initial number answer
    ≡ copying.leads aim mode (step.settled_to chunk (settle.settled_by marked mode (carry.carried_on hash (link_after made mode initial answer))))
settle_form initial number mode aim chunk marked hash made (answers.Call (told.Word word)) = refl
settle_form initial number mode aim chunk marked hash made (answers.Call told.Exchanged) = refl
settle_form initial number mode aim chunk marked hash made (answers.Call (told.Found word)) = refl
settle_form initial number mode aim chunk marked hash made (answers.Call (told.Yes same)) = refl
settle_form initial number mode aim chunk marked hash made (answers.Call (told.Op kind)) = refl
settle_form initial number mode aim chunk marked hash made (answers.Call (told.Size slots limit)) = refl
settle_form initial number mode aim chunk marked hash made (answers.Call (told.Made n)) = refl
settle_form initial number mode aim chunk marked hash made (answers.Call told.Ok) = refl
settle_form initial number mode aim chunk marked hash made (answers.Call (told.Refused refused)) = refl
settle_form initial number mode aim chunk marked hash made (answers.Hash other) = refl
settle_form initial number mode aim chunk marked hash made (answers.Count count) = refl

lone_form : (initial number : ℕ) (mode : ResizeMode) (slot : SlotToCopy) (marked hash : ℕ) (made : Link) (answer : Answer)
    → copying_after (Lone slot (settles.Carrying marked (carries.Linking hash made))) mode initial number answer ≡ copying.lone slot
    (settle.settled_by marked mode (carry.carried_on hash (link_after made mode initial answer)))
lone_form initial number mode slot marked hash made (answers.Call (told.Word word)) = refl
lone_form initial number mode slot marked hash made (answers.Call told.Exchanged) = refl
lone_form initial number mode slot marked hash made (answers.Call (told.Found word)) = refl
lone_form initial number mode slot marked hash made (answers.Call (told.Yes same)) = refl
lone_form initial number mode slot marked hash made (answers.Call (told.Op kind)) = refl
lone_form initial number mode slot marked hash made (answers.Call (told.Size slots limit)) = refl
lone_form initial number mode slot marked hash made (answers.Call (told.Made n)) = refl
lone_form initial number mode slot marked hash made (answers.Call told.Ok) = refl
lone_form initial number mode slot marked hash made (answers.Call (told.Refused refused)) = refl
lone_form initial number mode slot marked hash made (answers.Hash other) = refl
lone_form initial number mode slot marked hash made (answers.Count count) = refl

-- a move of a pair in which a table is made
in_carry : (goes : Carry) (made : Link) → link_in_carry goes ≡ Some made → (hash : ℕ) × (goes ≡ carries.Linking hash made)
in_carry (carries.Linking hash link) made e = let same : link ≡ made = cc e in (hash, ap (carries.Linking hash) same)
in_carry other made e = absurd cc

in_settle : (goes : Settle) (made : Link) → link_in_settle goes ≡ Some made → (marked : ℕ) × (hash : ℕ)
    × (goes ≡ settles.Carrying marked (carries.Linking hash made))
in_settle (settles.Carrying marked goes) made e = let (hash, is) = in_carry goes made e in (marked, hash, ap (settles.Carrying marked) is)
in_settle other made e = absurd cc

module _ (mode : ResizeMode) (initial : ℕ) (answer : Answer) where
  -- the making begins, or the answer advanced it from this one
  abbrev pub IsLed : Option Link → Link → Type 0
  IsLed None made' = IsBegun made'
  IsLed (Some made) made' = IsBegun made' ⊎ (link_after made mode initial answer ≡ linked.On made')

  begun_led : (o o' : Option Link) → In IsBegun o' → In (IsLed o) o'
  begun_led o None h = tt
  begun_led None (Some made') h = h
  begun_led (Some made) (Some made') h = inl h

  -- the same for the state after a copy
  abbrev pub IsCopyLed : Link → Copied → Type 0
  IsCopyLed made (copied.On goes) = In (IsLed (Some made)) (link_in_copying goes)
  IsCopyLed made _ = Unit {0}

  module _ (made : Link) where
    step_led : (aim : Aim) (from : ℕ) (end : Linked) → link_after made mode initial answer ≡ end
        → IsCopyLed made (copying.leads aim mode (step.linked_to from end))
    step_led aim from (linked.On made') e = inr e
    step_led aim from (linked.Table table) e = tt
    step_led aim from (linked.Refused refused) e = tt

    settle_led : (aim : Aim) (chunk : Chunk) (marked hash : ℕ) (end : Linked) → link_after made mode initial answer ≡ end
        → IsCopyLed made (copying.leads aim mode (step.settled_to chunk (settle.settled_by marked mode (carry.carried_on hash end))))
    settle_led aim chunk marked hash (linked.On made') e = inr e
    settle_led aim chunk marked hash (linked.Table table) e = tt
    settle_led aim chunk marked hash (linked.Refused refused) e = tt

    lone_led : (slot : SlotToCopy) (marked hash : ℕ) (end : Linked) → link_after made mode initial answer ≡ end
        → IsCopyLed made (copying.lone slot (settle.settled_by marked mode (carry.carried_on hash end)))
    lone_led slot marked hash (linked.On made') e = inr e
    lone_led slot marked hash (linked.Table table) e = tt
    lone_led slot marked hash (linked.Refused refused) e = tt

    -- a copy in which a table is made
    pub copy_led : (goes : Copying) (number : ℕ) → link_in_copying goes ≡ Some made → IsCopyLed made (copying_after goes mode initial number answer)
    copy_led (Stepping aim (steps.Linking from other)) number e =
        let same : other ≡ made = cc e in
        subst (λ l. IsCopyLed made (copying_after (Stepping aim (steps.Linking from l)) mode initial number answer)) (sym same)
        (subst (IsCopyLed made) (sym (step_form initial number mode aim from made answer)) (step_led aim from (link_after made mode initial answer) refl))
    copy_led (Stepping aim (steps.Settling chunk goes)) number e =
        let (marked, hash, is) = in_settle goes made e in
        subst (λ x. IsCopyLed made (copying_after (Stepping aim (steps.Settling chunk x)) mode initial number answer)) (sym is)
        (subst (IsCopyLed made) (sym (settle_form initial number mode aim chunk marked hash made answer))
        (settle_led aim chunk marked hash (link_after made mode initial answer) refl))
    copy_led (Stepping aim other) number e = absurd cc
    copy_led (Lone slot goes) number e =
        let (marked, hash, is) = in_settle goes made e in
        subst (λ x. IsCopyLed made (copying_after (Lone slot x) mode initial number answer)) (sym is)
        (subst (IsCopyLed made) (sym (lone_form initial number mode slot marked hash made answer))
        (lone_led slot marked hash (link_after made mode initial answer) refl))

  -- if no table is made, no size is loaded
  told_none : (o : Option Link) → o ≡ None → (slots : ℕ) → Of Never o slots
  told_none None e slots = tt
  told_none (Some made) e slots = absurd cc

  pub new_any : (o : Option Link) (n : ℕ) → Of Always o n
  new_any None n = tt
  new_any (Some made) n = tt

  -- a copy in which none is made
  copy_begins : (goes : Copying) (number : ℕ) → link_in_copying goes ≡ None
      → states.Copied_holds IsBegun Never Always begun_stable (copying_after goes mode initial number answer)
  copy_begins goes number e = states.copying_after IsBegun Never Always begun_stable goes mode initial number answer
      (λ slots limit is. told_none (link_in_copying goes) e slots) (λ n is. new_any (link_in_copying goes) n) (subst (In IsBegun) (sym e) tt)

  -- the same for any copy
  abbrev pub IsCopyLedFrom : Option Link → Copied → Type 0
  IsCopyLedFrom o (copied.On goes) = In (IsLed o) (link_in_copying goes)
  IsCopyLedFrom o _ = Unit {0}

  pub copying_leads : (goes : Copying) (number : ℕ) → IsCopyLedFrom (link_in_copying goes) (copying_after goes mode initial number answer)
  copying_leads goes number = go (link_in_copying goes) refl
    where
      none_led : (end : Copied) → states.Copied_holds IsBegun Never Always begun_stable end → IsCopyLedFrom None end
      none_led (copied.On then) h = begun_led None (link_in_copying then) h
      none_led (copied.Search table) h = tt
      none_led (copied.Root root) h = tt
      none_led copied.Chunk h = tt
      none_led (copied.Refused refused) h = tt

      some_led : (made : Link) (end : Copied) → IsCopyLed made end → IsCopyLedFrom (Some made) end
      some_led made (copied.On then) h = h
      some_led made (copied.Search table) h = tt
      some_led made (copied.Root root) h = tt
      some_led made copied.Chunk h = tt
      some_led made (copied.Refused refused) h = tt

      go : (o : Option Link) → link_in_copying goes ≡ o → IsCopyLedFrom o (copying_after goes mode initial number answer)
      go None e = none_led (copying_after goes mode initial number answer) (copy_begins goes number e)
      go (Some made) e = some_led made (copying_after goes mode initial number answer) (copy_led made goes number e)

-- and of a call
pub machine_leads : (m : Machine) (answer : Answer) → In (IsLed m.call.mode m.call.initial answer (link_in m.phase)) (link_in (after m answer).phase)
machine_leads m answer = by_phase m.phase refl
  where
    begins_on : (o : Option Link) → (table : ℕ) → In (IsLed m.call.mode m.call.initial answer o) (link_in (onward m table).phase)
    begins_on o table = begun_led m.call.mode m.call.initial answer o (link_in (onward m table).phase) (states.onward IsBegun Never Always begun_stable m table)

    calling : m.phase ≡ Calling → In (IsLed m.call.mode m.call.initial answer None) (link_in (after m answer).phase)
    calling e =
        let none : link_in m.phase ≡ None = ap link_in e in
        begun_led m.call.mode m.call.initial answer None (link_in (after m answer).phase)
        (states.machine_holds IsBegun Never Always begun_stable m answer
        (λ slots limit is. told_none m.call.mode m.call.initial answer (link_in m.phase) none slots)
        (λ n aside is. new_any m.call.mode m.call.initial answer (link_in m.phase) n) (subst (In IsBegun) (sym none) tt))

    linked_leads : (made : Link) (end : Linked) → link_after made m.call.mode m.call.initial answer ≡ end
        → In (IsLed m.call.mode m.call.initial answer (Some made)) (link_in (after_linked m end).phase)
    linked_leads made (linked.On made') e = inr e
    linked_leads made (linked.Table table) e = begins_on (Some made) table
    linked_leads made (linked.Refused refused) e = tt

    copied_leads : (o : Option Link) (end : Copied) → IsCopyLedFrom m.call.mode m.call.initial answer o end
        → In (IsLed m.call.mode m.call.initial answer o) (link_in (after_copied m end).phase)
    copied_leads o (copied.On goes) h = h
    copied_leads o (copied.Search table) h = tt
    copied_leads o (copied.Root root) h = tt
    copied_leads o copied.Chunk h = tt
    copied_leads o (copied.Refused refused) h = tt

    by_phase : (phase : Phase) → m.phase ≡ phase → In (IsLed m.call.mode m.call.initial answer (link_in phase)) (link_in (after_in m answer phase).phase)
    by_phase Calling e = subst (λ phase. In (IsLed m.call.mode m.call.initial answer None) (link_in (after_in m answer phase).phase)) e (calling e)
    by_phase (Linking made) e = linked_leads made (link_after made m.call.mode m.call.initial answer) refl
    by_phase (Copying_root goes) e = copied_leads (link_in_copying goes) (copying_after goes m.call.mode m.call.initial m.number answer)
        (copying_leads m.call.mode m.call.initial answer goes m.number)
