-- The reply of a lookup is the pair that the map has.
use Rattle.std.proofs.Common.{◌≡◌, ⊎_elim, ℕ, ◌<◌, ◌^◌, Bool, true, List, [], ◌∷◌, Option, Some, None, option_map, refl, sym, ◌∙◌, ap, subst}
use Rattle.std.specs.Int.{IsPowerOfTwo}
use Rattle.std.specs.Cmp.{IsEquivalence}
use Rattle.papaya_core_store.specs.declared.store.Mode.{Mode}
use Rattle.papaya_call.specs.declared.ask.Answer.{Answer}
use Rattle.papaya_call.specs.declared.ask.Ask.TheVariants.{Done as Ask_done}
use Rattle.papaya_call.specs.declared.call.Call.TheVariants.{Get}
use Rattle.papaya_call.specs.declared.call.Task.TheVariants.{Get as Get_task}
use Rattle.papaya_call.specs.declared.call.Reply.{Reply}
use Rattle.papaya_call.specs.declared.call.Reply.TheVariants.{Absent, Found, Inserted, Replaced, Occupied, Removed, Kept, Aborted, Done, Refused}
use Rattle.papaya_call.specs.declared.machine.Machine.{Machine}
use Rattle.papaya_call.specs.declared.machine.State.TheVariants.{Ended}
use Rattle.papaya_call_law.specs.Alone.{HasMetNone}
use Rattle.papaya_call.specs.Machine.{after, ask_of, started}
use Rattle.papaya_call_law.proofs.Tasks.{same_task}
use Rattle.papaya_core_timeline.specs.Content.{map_of}
use Rattle.papaya_core_timeline.specs.Kept.{IsLawfulCore}
use Rattle.papaya_core_timeline.specs.Maps.{Map, Does}
use Rattle.papaya_core_timeline.specs.Solo.{IsAnswered}
use Rattle.papaya_core_store.specs.Store.{StoreState, Stored}
use Rattle.papaya_words_keys.specs.Hashes.{hash_of}
use Rattle.papaya_core_timeline.proofs.SoloLaw.{alone_answered}
use Rattle.papaya_core_timeline.proofs.KeptCore.{keys_lawful}
use Rattle.papaya_core_timeline.proofs.KeptSettings.{IsLawfulKeys}
use Rattle.papaya_seq.specs.Looks.{IsFound, LooksUp, Replies, reply_of}
use Rattle.papaya_seq.specs.Map.{Holds, MapState, core_of}
use Rattle.papaya_seq.proofs.Lawful.{IsMatched, MatchesNone, decided, logged_content, lookup_has_none, lookup_holds, none_held}
use Rattle.papaya_seq.proofs.LookRun.{look_alone}
use Rattle.papaya_seq.proofs.LookSteps.{IsLooking, IsLookReply, IsLookUp, look_replies, lookup_looks, lookup_meets_none, none_replies}

module _ {K V S : Type 0} (eq : K → K → Bool) (hash : K → ℕ) (mode : Mode) (store : StoreState K V S)
    (lawful : IsLawfulCore {A = Unit {0}} eq hash store [] mode) (keys : IsLawfulKeys eq hash) (matches : K → Bool) where
  -- if no pair of the arena matches, the reply is that there is none
  unmatched_reply : MatchesNone store matches → (answers : List Answer) (m : Machine) (reply : Reply) → m.task ≡ Get_task → IsLooking store m.state
      → HasMetNone m.state → Replies matches store m answers reply → reply ≡ Absent
  unmatched_reply none [] m reply is_get looking met done = none_replies m.made m.hash m.state reply met done
  unmatched_reply none (answer ∷ rest) m reply is_get looking met (told, more) =
      unmatched_reply none rest (after m answer) reply ((same_task m answer).0 ∙ is_get)
      (lookup_looks eq hash mode store lawful keys matches m is_get looking answer told)
      (lookup_meets_none eq hash mode store lawful keys matches m is_get looking answer told none met) more

  -- the replies of a lookup
  reply_fits : (answers : List Answer) (m : Machine) (reply : Reply) → m.task ≡ Get_task → IsLooking store m.state
      → Replies matches store m answers reply → IsLookReply reply
  reply_fits [] m reply is_get looking done = look_replies store m.made m.hash m.state reply looking done
  reply_fits (answer ∷ rest) m reply is_get looking (told, more) = reply_fits rest (after m answer) reply ((same_task m answer).0 ∙ is_get)
      (lookup_looks eq hash mode store lawful keys matches m is_get looking answer told) more

  -- the pair that a reply names is the map's, or there is none
  pub record Finds (reply : Reply) : Type 0 where
    pub found : Option (Stored K V)
    pub is_found : IsFound eq matches store found
    pub is_reply : reply_of found ≡ reply

  -- the effect on the finite map of a lookup of an equal key
  does_find : (k : K) → ((l : K) → matches l ≡ eq k l) → (reply : Reply) → IsLookReply reply → (m' : Map K V)
      → IsAnswered {A = Unit {0}} eq (Get k) (map_of {A = Unit {0}} eq (core_of (record { store = store; mode = mode; initial = 0 }))) reply m' → Finds reply
  does_find k alike Absent fit m' done = has_none done.went done.update.before done.does
    where
      has_none : (o : Option (Stored K V)) → map_of {A = Unit {0}} eq (core_of (record { store = store; mode = mode; initial = 0 })) k ≡ o
          → Does {A = Unit {0}} (Get k) o Absent done.came → Finds Absent
      has_none None is does = record { found = None; is_found = lookup_has_none eq matches k alike store is; is_reply = refl }
      has_none (Some p) is does = absurd does
  does_find k alike (Found n) fit m' done = has_pair done.went done.update.before done.does
    where
      has_pair : (o : Option (Stored K V)) → map_of {A = Unit {0}} eq (core_of (record { store = store; mode = mode; initial = 0 })) k ≡ o
          → Does {A = Unit {0}} (Get k) o (Found n) done.came → Finds (Found n)
      has_pair None is does = absurd does
      has_pair (Some p) is does =
          let holds : Holds eq matches store p = lookup_holds eq matches k alike store p is in
          record { found = Some p; is_found = (holds, logged_content store eq p holds.there); is_reply = ap Found does.0 }
  does_find k alike (Inserted n) fit m' done = absurd fit
  does_find k alike (Replaced o n) fit m' done = absurd fit
  does_find k alike (Occupied n) fit m' done = absurd fit
  does_find k alike (Removed n) fit m' done = absurd fit
  does_find k alike (Kept n) fit m' done = absurd fit
  does_find k alike (Aborted t) fit m' done = absurd fit
  does_find k alike Done fit m' done = absurd fit
  does_find k alike (Refused refused) fit m' done = absurd fit

-- the number in a reply that names a pair that was found
abbrev pub found_number : Reply → Option ℕ
found_number (Found n) = Some n
found_number _ = None

-- the number in the reply is the pair's
number_found : {K V : Type 0} (found : Option (Stored K V)) → found_number (reply_of found) ≡ option_map (λ p. p.number) found
number_found None = refl
number_found (Some p) = refl

module _ {K V S H : Type 0} (eq : K → K → Bool) (input : K → List (List ℕ)) (build : S → H) (write : H → List ℕ → H) (finish : H → ℕ)
    (classes : IsEquivalence eq) (respects : (x y : K) → eq x y ≡ true → input x ≡ input y)
    (s : MapState K V S) (lawful : IsLawfulCore {A = Unit {0}} eq (hash_of input build write finish s.store.hasher) s.store [] s.mode)
    (power : IsPowerOfTwo s.initial)
    (matches : K → Bool) (hashed : ℕ) (alike : (k l : K) → matches k ≡ true → matches l ≡ eq k l)
    (hashes_alike : (k : K) → matches k ≡ true → hashed ≡ hash_of input build write finish s.store.hasher k) (fits : hashed < 2 ^ 64) where
  -- equal keys hash alike
  pub keys : IsLawfulKeys eq (hash_of input build write finish s.store.hasher)
  keys = keys_lawful eq input build write finish classes respects s.store.hasher

  -- a lookup whose asks are answered from the tables finds the map's pair, or that there is none
  pub looked_up : (answers : List Answer) (reply : Reply)
      → Replies matches s.store (started Get_task hashed s.mode.resize s.initial s.mode.limit) answers reply
      → Finds eq (hash_of input build write finish s.store.hasher) s.mode s.store lawful keys matches reply
  looked_up answers reply replies = ⊎_elim by_call by_none (decided s.store matches)
    where
      fit : IsLookReply reply
      fit = reply_fits eq (hash_of input build write finish s.store.hasher) s.mode s.store lawful keys matches answers
          (started Get_task hashed s.mode.resize s.initial s.mode.limit) reply refl tt replies

      by_call : IsMatched s.store matches → Finds eq (hash_of input build write finish s.store.hasher) s.mode s.store lawful keys matches reply
      by_call one =
          let k : K = one.pair.key in
          let same : hashed ≡ hash_of input build write finish s.store.hasher k = hashes_alike k one.matched in
          let alone = look_alone eq (hash_of input build write finish) s lawful power keys k matches (λ l. alike k l one.matched)
          (subst (λ n. n < 2 ^ 64) same fits) answers reply
          (subst (λ n. Replies matches s.store (started Get_task n s.mode.resize s.initial s.mode.limit) answers reply) same replies) in
          does_find eq (hash_of input build write finish s.store.hasher) s.mode s.store lawful keys matches k (λ l. alike k l one.matched) reply fit _
          (alone_answered eq input build write finish classes respects (core_of s) _ (Get k) reply lawful alone)

      by_none : MatchesNone s.store matches → Finds eq (hash_of input build write finish s.store.hasher) s.mode s.store lawful keys matches reply
      by_none none =
          let absent : reply ≡ Absent = unmatched_reply eq (hash_of input build write finish s.store.hasher) s.mode s.store lawful keys matches none
          answers (started Get_task hashed s.mode.resize s.initial s.mode.limit) reply refl tt tt replies in
          record { found = None; is_found = none_held s.store matches eq none; is_reply = sym absent }

  -- the pair that such a lookup has found when it replies
  look_up_finds : (m : Machine) → IsLookUp matches s.store (started Get_task hashed s.mode.resize s.initial s.mode.limit) m → (reply : Reply)
      → ask_of m ≡ Ask_done reply
      → (found : Option (Stored K V)) × LooksUp eq matches s.store (started Get_task hashed s.mode.resize s.initial s.mode.limit) found
      × (reply_of found ≡ reply)
  look_up_finds m kept reply done =
      let all = kept.told [] reply done in
      let finds = looked_up all.0 reply all.1 in (
        finds.found,
        (
          finds.is_found,
          (
            all.0,
            subst (Replies matches s.store (started Get_task hashed s.mode.resize s.initial s.mode.limit) all.0)
                (sym finds.is_reply) all.1,
          ),
        ),
        finds.is_reply,
      )

  -- and so its number is in the reply
  pub look_up_answers : (reply : Reply) (answer : Option ℕ) → answer ≡ found_number reply
      → IsLookUp matches s.store (started Get_task hashed s.mode.resize s.initial s.mode.limit)
      (record (started Get_task hashed s.mode.resize s.initial s.mode.limit) { state = Ended reply })
      → (found : Option (Stored K V)) × LooksUp eq matches s.store (started Get_task hashed s.mode.resize s.initial s.mode.limit) found
      × (answer ≡ option_map (λ p. p.number) found)
  look_up_answers reply answer is came =
      let finds = look_up_finds (record (started Get_task hashed s.mode.resize s.initial s.mode.limit) { state = Ended reply }) came reply refl in
      (finds.0, finds.1, is ∙ sym (ap found_number finds.2) ∙ number_found finds.0)
