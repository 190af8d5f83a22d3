-- After its own exchange the facts that a machine relies on hold again, and the exchange was
-- allowed.
use Rattle.std.proofs.Common.{◌≡◌, ⊎_elim, ℕ, ◌<◌, ◌==◌, eqb-true, eq-eqb, Bool, true, false, cond}
use Rattle.std.proofs.Common.{MatchBool, Option, Some, List, [], ◌∷◌, ◌++◌, append_assoc, refl, sym}
use Rattle.std.proofs.Common.{ap, ◌∙◌, subst}
use Rattle.papaya_words.specs.Word.{pair_of, hint_of}
use Rattle.papaya_call.specs.declared.ask.At.TheVariants.{Root, Slot}
use Rattle.papaya_call.specs.declared.ask.StepKind.{StepKind}
use Rattle.papaya_call.specs.declared.ask.StepKind.TheVariants as kinds
use Rattle.papaya_call.specs.declared.call.Reply.TheVariants.{Replaced}
use Rattle.papaya_call.specs.declared.call.Task.{Task}
use Rattle.papaya_call.specs.declared.call.Task.TheVariants.{Get, Insert, RemoveIf, Compute}
use Rattle.papaya_call.specs.declared.compute.Put.{Put}
use Rattle.papaya_call.specs.declared.machine.State.TheVariants.{Counting, Ended}
use Rattle.papaya_call.specs.declared.search.Place.{Place}
use Rattle.papaya_call.specs.declared.write.Write.{Write}
use Rattle.papaya_words_law.specs.Exchange.{Live, Setting, State, Exchange, Open, Claim, after, run, start}
use Rattle.papaya_words_law.specs.Allows.{AllAllowed, Allows}
use Rattle.papaya_words_law.specs.Code.{Coding, code}
use Rattle.papaya_call.specs.Machine.{IsComputer, written}
use Rattle.papaya_call_law.specs.TrueAnswers.{IsAsked, LoadedPairs}
use Rattle.papaya_words_law.specs.Code.{IsHashed}
use Rattle.papaya_call_law.specs.Relies.{HasClaimed, HasComeTo, IsOwnPair, IsPairAt, IsPairFor, MayWrite, ReliesStage, ReliesWriting}
use Rattle.papaya_call.specs.Write.{claimed_by, write_kind}
use Rattle.papaya_words_law.proofs.Hints.{hint_fills}
use Rattle.papaya_words_law.proofs.Moments.{run-append, allowed_append}
use Rattle.papaya_words_law.proofs.Slots.{put_there}
use Rattle.papaya_call_law.proofs.ReliesStable.{at_stable}
use Rattle.papaya_call_law.proofs.ReliesExchange.{live_same, may_claim, may_replace}
use Rattle.papaya_call_law.proofs.ReliesLearnMoments.{root_come}
use Rattle.papaya_words_law.specs.Hints.{IsHint}

module _ {K P : Type 0} (g : Setting K P) (c : Coding K P) (hashed : IsHashed g c) (begun since : List (Exchange P))
    (may : AllAllowed g start (begun ++ since)) (k : K) where
  -- the state after all exchanges
  abbrev now : State P
  now = run (begun ++ since) start

  -- one more allowed exchange
  pub one_more : (e : Exchange P) → Allows g now e → AllAllowed g start (begun ++ (since ++ e ∷ []))
  one_more e allows = subst (AllAllowed g start) (append_assoc begun since (e ∷ [])) (allowed_append g (begun ++ since) (e ∷ []) start may (allows, tt))

  -- the state after it
  pub after_more : (e : Exchange P) → run (begun ++ (since ++ e ∷ [])) start ≡ after now e
  after_more e = ap (λ l. run l start) (sym (append_assoc begun since (e ∷ []))) ∙ run-append (begun ++ since) (e ∷ []) start

  -- a search comes to the root that was put in
  opened : (t : ℕ) → 0 < t → now.root ≡ 0 → (e : Exchange P) → e ≡ Open t → AllAllowed g start (begun ++ (since ++ e ∷ []))
      × HasComeTo g c begun (since ++ e ∷ []) k t
  opened t some none e is =
      let all : AllAllowed g start (begun ++ (since ++ Open t ∷ [])) = one_more (Open t) (none, some) in
      let root : (run (begun ++ (since ++ Open t ∷ [])) start).root ≡ t = ap (λ s. s.root) (after_more (Open t)) in
      let come : HasComeTo g c begun (since ++ Open t ∷ []) k t = subst (HasComeTo g c begun (since ++ Open t ∷ []) k) root
      (root_come g c hashed.lawful begun (since ++ Open t ∷ []) all k (subst (λ y. 0 < y) (sym root) some)) in
      subst (λ y. AllAllowed g start (begun ++ (since ++ y ∷ [])) × HasComeTo g c begun (since ++ y ∷ []) k t) (sym is) (all, come)

  -- the exchange that was asked for at the root
  pub opens : (t : ℕ) → 0 < t → now.root ≡ 0 → (loaded : LoadedPairs P) (es : List (Exchange P))
      → ((e : Exchange P) × IsAsked g c k (Some kinds.Open) Root t now loaded e × (es ≡ e ∷ []))
      → AllAllowed g start (begun ++ (since ++ es)) × HasComeTo g c begun (since ++ es) k t
  opens t some none loaded es h = subst (λ l. AllAllowed g start (begun ++ (since ++ l)) × HasComeTo g c begun (since ++ l) k t) (sym h.2)
      (opened t some none h.0 h.1)

  -- the word at a place of the search
  abbrev word_at : Place → ℕ
  word_at at = code g c (now.slot at.table at.probe.i)

  -- the exchange that was made there is the one that was asked for
  abbrev pub IsSlotAsked : Option StepKind → Place → ℕ → LoadedPairs P → List (Exchange P) → Type 0
  IsSlotAsked kind at new loaded es = (e : Exchange P) × IsAsked g c k kind (Slot at.table at.probe.i) new now loaded e × (es ≡ e ∷ [])

  module _ (loaded : LoadedPairs P) (new : ℕ) (replace : Bool) (write : Write) (r : MayWrite g c begun since k loaded replace write)
      (old : word_at write.place ≡ write.old) where
    -- an exchange of a slot that was asked for by a write is allowed
    allowed_write : (b : Bool) → (write.old == 0) ≡ b → (e : Exchange P)
        → IsAsked g c k (Some (cond b kinds.Claim kinds.Replace)) (Slot write.place.table write.place.probe.i) new now loaded e → Allows g now e
    allowed_write true is e h = subst (Allows g now) (sym h.3)
        (may_claim g c hashed begun since may k write.place r.stands h.0 h.2 (old ∙ eqb-true write.old 0 is))
    allowed_write false is e h =
        ⊎_elim
        (λ none. absurd (let some = eq-eqb write.old 0 none in cc (some, is)))
        (λ o. subst (Allows g now) (sym h.5) (may_replace g c hashed begun since may k write.place r.stands h.0 h.1 h.2
        (live_same g c hashed begun since may k loaded (record { place = write.place; word = write.old }) o.1 h.0 h.2) h.4))
        r.old

    -- so it may follow the exchanges so far
    allowed_slot : (es : List (Exchange P)) → IsSlotAsked (Some (write_kind write)) write.place new loaded es → AllAllowed g start (begun ++ (since ++ es))
    allowed_slot es h = subst (λ l. AllAllowed g start (begun ++ (since ++ l))) (sym h.2) (one_more h.0 (allowed_write (write.old == 0) refl h.0 h.1))

  -- the new pair is where it was claimed, and is of the key
  claimed_there : (loaded : LoadedPairs P) (new : ℕ) (write : Write) → (es : List (Exchange P)) → IsSlotAsked (Some kinds.Claim) write.place new loaded es
      → IsHint g c (run (begun ++ (since ++ es)) start) write.place.table write.place.probe.i (hint_of (c.hash k))
  claimed_there loaded new write es (e, (q, own, mine, is), one) =
      let t : ℕ = write.place.table in
      let x : ℕ = write.place.probe.i in
      let there : (run (begun ++ (since ++ Claim t x q ∷ [])) start).slot t x ≡ Live q = ap (λ s. s.slot t x) (after_more (Claim t x q))
      ∙ (put_there now t x (Live q) t x (refl, refl)).0 in
      let same : g.same k (g.key q) ≡ true = subst (λ l. g.same k l ≡ true) (sym mine) (hashed.lawful.itself k) in
      subst (λ l. IsHint g c (run (begun ++ (since ++ l)) start) t x (hint_of (c.hash k))) (sym (one ∙ ap (λ y. y ∷ []) is))
      (hint_fills g c hashed.coding k ((run (begun ++ (since ++ Claim t x q ∷ [])) start).slot t x) q there same)

  -- the claimed pair, its place and its hint
  has_claimed : (loaded : LoadedPairs P) → (n new : ℕ) → IsOwnPair g c begun since k loaded n → (replace : Bool) (write : Write)
      → MayWrite g c begun since k loaded replace write
      → (es : List (Exchange P)) → AllAllowed g start (begun ++ (since ++ es)) → IsSlotAsked (Some kinds.Claim) write.place new loaded es
      → HasClaimed g c begun (since ++ es) k loaded (claimed_by write n)
  has_claimed loaded n new own replace write r es all h = record {
    pair = own;
    stands = at_stable g c hashed begun since es all k write.place r.stands;
    hint = claimed_there loaded new write es h;
  }

  -- a pair was made for the place
  abbrev IsPairBy : LoadedPairs P → Write → ℕ → Bool → Type 0
  IsPairBy loaded write n b = MatchBool b (IsOwnPair g c begun since k loaded n) (IsPairAt g c begun since k loaded n write.place.table write.place.probe.i)

  -- an insertion that replaces has replaced, and another one has claimed
  has_written : (loaded : LoadedPairs P) → (n new : ℕ) → (replace : Bool) (write : Write) → MayWrite g c begun since k loaded replace write
      → (es : List (Exchange P)) → AllAllowed g start (begun ++ (since ++ es)) → (b : Bool) → (write.old == 0) ≡ b → IsPairBy loaded write n b
      → IsSlotAsked (Some (cond b kinds.Claim kinds.Replace)) write.place new loaded es
      → ReliesStage g c begun (since ++ es) k loaded (Insert replace) (cond b (Counting (claimed_by write n)) (Ended (Replaced (pair_of write.old) n)))
  has_written loaded n new replace write r es all true is own h = (tt, has_claimed loaded n new own replace write r es all h)
  has_written loaded n new true write r es all false is own h = (own.0, own.1, own.2)
  has_written loaded n new false write r es all false is own h =
      ⊎_elim
      (λ none. absurd (let some = eq-eqb write.old 0 none in cc (some, is)))
      (λ o. absurd (let replaces = o.0 in cc replaces))
      r.old

  -- the exchange that was asked for at a slot
  pub writes : (loaded : LoadedPairs P) → (n new : ℕ) → (task : Task) (write : Write) → IsPairFor g c begun since k loaded write n
      → ReliesWriting g c begun since k loaded task write
      → word_at write.place ≡ write.old → (es : List (Exchange P)) → IsSlotAsked (Some (write_kind write)) write.place new loaded es
      → AllAllowed g start (begun ++ (since ++ es)) × ReliesStage g c begun (since ++ es) k loaded task (written write n)
  writes loaded n new Get write own r old es h = absurd r
  writes loaded n new RemoveIf write own r old es h = absurd r
  writes loaded n new Compute write own r old es h = absurd r
  writes loaded n new (Insert replace) write own r old es h =
      let all = allowed_slot loaded new replace write r old es h in
      (all, has_written loaded n new replace write r es all (write.old == 0) refl own h)

  -- a compute has claimed or replaced
  has_put : (loaded : LoadedPairs P) → (task : Task) → IsComputer task → (n new : ℕ) (write : Write) → MayWrite g c begun since k loaded true write
      → (es : List (Exchange P)) → AllAllowed g start (begun ++ (since ++ es)) → (b : Bool) → IsPairBy loaded write n b
      → IsSlotAsked (Some (cond b kinds.Claim kinds.Replace)) write.place new loaded es
      → ReliesStage g c begun (since ++ es) k loaded task (cond b (Counting (claimed_by write n)) (Ended (Replaced (pair_of write.old) n)))
  has_put loaded Get is n new write r es all b own h = absurd is
  has_put loaded (Insert replace) is n new write r es all b own h = absurd is
  has_put loaded RemoveIf is n new write r es all b own h = absurd is
  has_put loaded Compute is n new write r es all true own h = (tt, has_claimed loaded n new own true write r es all h)
  has_put loaded Compute is n new write r es all false own h = (own.0, own.1, own.2)

  -- it puts the pair that it made
  pub puts : (loaded : LoadedPairs P) → (task : Task) → IsComputer task → (put : Put) → IsPairFor g c begun since k loaded put.write put.pair
      → (new : ℕ) → MayWrite g c begun since k loaded true put.write
      → word_at put.write.place ≡ put.write.old → (es : List (Exchange P)) → IsSlotAsked (Some (write_kind put.write)) put.write.place new loaded es
      → AllAllowed g start (begun ++ (since ++ es)) × ReliesStage g c begun (since ++ es) k loaded task (written put.write put.pair)
  puts loaded task is put own new r old es h =
      let all = allowed_slot loaded new true put.write r old es h in
      (all, has_put loaded task is put.pair new put.write r es all (put.write.old == 0) own h)
