-- The facts that the making of a next table relies on after each answer.
use Rattle.std.proofs.Common.{◌≡◌, ℕ, ◌<◌, ◌^◌, ◌==◌, eqb-true, nat_le, Some, Option, refl, sym, ap, ◌∙◌, subst, arith}
use Rattle.std.proofs.lemmas.Bool.{cond_both}
use Rattle.papaya_words.proofs.ChunkLemmas.{chunk_counted, chunk_some}
use Rattle.papaya_words.specs.Chunks.{chunk_count, chunk_len}
use Rattle.papaya_words.specs.Table.{length_after}
use Rattle.papaya_words.specs.declared.refused.Refused.{Refused}
use Rattle.papaya_words.specs.declared.refused.Refused.TheVariants.{Capacity}
use Rattle.papaya_words.specs.declared.resize_mode.ResizeMode.{ResizeMode}
use Rattle.papaya_call.specs.declared.ask.At.{At}
use Rattle.papaya_call.specs.declared.ask.At.TheVariants.{Next}
use Rattle.papaya_call.specs.declared.ask.StepKind.TheVariants as kinds
use Rattle.papaya_call.specs.declared.copy_ask.CopyAsk.TheVariants.{Exchange as Ask_exchange, SizeOf}
use Rattle.papaya_call.specs.declared.copy.link.Link.{Link}
use Rattle.papaya_call.specs.declared.copy.link.Link.TheVariants as links
use Rattle.papaya_call.specs.declared.copy.link.Linked.TheVariants as linked
use Rattle.papaya_call.specs.Link.{at_count, at_exchanged, at_found, at_made, at_refused, at_size, follows, link_ask, link_kind, making}
use Rattle.papaya_words_law.specs.Code.{Coding}
use Rattle.papaya_words_law.specs.Exchange.{Setting, State, Exchange, after}
use Rattle.papaya_call_law.specs.Copier.{IsCopyAsked, IsCutInto, ReliesLink, ReliesLinked}
use Rattle.papaya_call_law.specs.Relies.{IsCutAs}
use Rattle.papaya_call_law.specs.TrueAnswers.{word_of}
use Rattle.papaya_call_law.proofs.CopierExchange.{put_here}

-- a table of this length has each slot in one of its chunks
pub cut_into : {K P : Type 0} (g : Setting K P) (mode : ResizeMode) → IsCutAs mode g.chunk_of → (len from : ℕ) → len ≡ g.size from
    → IsCutInto g from (chunk_count len (chunk_len mode))
cut_into g mode cut len from is x lt = subst (λ y. y < chunk_count len (chunk_len mode)) (sym (cut x))
    (chunk_counted (chunk_len mode) (chunk_some mode) len x (subst (λ y. x < y) (sym is) lt))

module _ {K P : Type 0} (g : Setting K P) (c : Coding K P) (s : State P) (last kept : Option P) where
  pub link_sized : (link : Link) → ReliesLink g c s link → (t : ℕ) → link_ask link ≡ SizeOf t → ReliesLink g c s (at_size link (g.size t))
  link_sized (links.Sizing behind copied unfit) r t e =
      let is : behind ≡ t = cc e in
      cond_both (copied == behind) (links.Counting behind unfit (g.size t) (g.size t)) (links.Measuring behind copied unfit (g.size t)) (ReliesLink g c s)
      (λ same. record {
        on = r.on;
        rises = tt;
        from = r.from;
        linking = r.linking;
        measures = ap g.size
            (sym is ∙ (sym (eqb-true copied behind same) ∙ r.measures));
      })
      (λ other. record { on = r.on; rises = tt; from = r.from; linking = r.linking; measures = r.measures })
  link_sized (links.Measuring behind copied unfit len) r t e =
      let is : copied ≡ t = cc e in
      record { on = r.on; rises = tt; from = r.from; linking = r.linking; measures = ap g.size (sym is ∙ r.measures) }
  link_sized (links.Counting behind unfit len copied) r t e = absurd cc
  link_sized (links.Making behind len limit chunks) r t e = absurd cc
  link_sized (links.Linking behind table chunks) r t e = absurd cc

  -- it follows the same table
  pub sized_follows : (link : Link) (slots : ℕ) → follows (at_size link slots) ≡ follows link
  sized_follows (links.Sizing behind copied unfit) slots =
      cond_both (copied == behind) (links.Counting behind unfit slots slots) (links.Measuring behind copied unfit slots) (λ y. follows y ≡ behind)
      (λ same. refl) (λ other. refl)
  sized_follows (links.Measuring behind copied unfit len) slots = refl
  sized_follows (links.Counting behind unfit len copied) slots = refl
  sized_follows (links.Making behind len limit chunks) slots = refl
  sized_follows (links.Linking behind table chunks) slots = refl

  pub made_follows : (link : Link) (n : ℕ) → follows (at_made link n) ≡ follows link
  made_follows (links.Sizing behind copied unfit) n = refl
  made_follows (links.Measuring behind copied unfit len) n = refl
  made_follows (links.Counting behind unfit len copied) n = refl
  made_follows (links.Making behind len limit chunks) n = refl
  made_follows (links.Linking behind table chunks) n = refl

  pub link_counted : (mode : ResizeMode) → IsCutAs mode g.chunk_of → (link : Link) → ReliesLink g c s link → (count initial : ℕ)
      → ReliesLinked g c s last kept (follows link) (at_count link mode count initial)
  link_counted mode cut (links.Sizing behind copied unfit) r count initial = (refl, r)
  link_counted mode cut (links.Measuring behind copied unfit len) r count initial = (refl, r)
  link_counted mode cut (links.Counting behind unfit len copied) r count initial =
      let asked : ℕ = length_after len count initial unfit in
      let chunks : ℕ = chunk_count copied (chunk_len mode) in
      cond_both (nat_le asked (2 ^ 32)) (linked.On (making behind len unfit chunks asked)) (linked.Refused Capacity) (ReliesLinked g c s last kept behind)
      (λ fits. (
        refl,
        record {
          on = r.on;
          rises = tt;
          from = r.from;
          linking = r.linking;
          measures = cut_into g mode cut copied r.from r.measures;
        },
      ))
      (λ over. tt)
  link_counted mode cut (links.Making behind len limit chunks) r count initial = (refl, r)
  link_counted mode cut (links.Linking behind table chunks) r count initial = (refl, r)

  pub link_made : (link : Link) → ReliesLink g c s link → (n : ℕ) → follows link < n → ReliesLink g c s (at_made link n)
  link_made (links.Sizing behind copied unfit) r n more = r
  link_made (links.Measuring behind copied unfit len) r n more = r
  link_made (links.Counting behind unfit len copied) r n more = r
  link_made (links.Making behind len limit chunks) r n more = record { on = r.on; rises = more; from = r.from; linking = r.linking; measures = r.measures }
  link_made (links.Linking behind table chunks) r n more = r

  pub link_refused : (link : Link) → ReliesLink g c s link → (refused : Refused) → ReliesLinked g c s last kept (follows link) (at_refused link refused)
  link_refused (links.Sizing behind copied unfit) r refused = (refl, r)
  link_refused (links.Measuring behind copied unfit len) r refused = (refl, r)
  link_refused (links.Counting behind unfit len copied) r refused = (refl, r)
  link_refused (links.Making behind len limit chunks) r refused = tt
  link_refused (links.Linking behind table chunks) r refused = (refl, r)

  -- another caller linked a table before
  pub link_found : (link : Link) → ReliesLink g c s link → (at : At) (old new : ℕ) → link_ask link ≡ Ask_exchange at old new
      → (word_of g c s at ≡ old → ⊥) → ReliesLinked g c s last kept (follows link) (at_found link (word_of g c s at))
  link_found (links.Sizing behind copied unfit) r at old new e other = absurd cc
  link_found (links.Measuring behind copied unfit len) r at old new e other = absurd cc
  link_found (links.Counting behind unfit len copied) r at old new e other = absurd cc
  link_found (links.Making behind len limit chunks) r at old new e other = absurd cc
  link_found (links.Linking behind table chunks) r at old new e other =
      let is : Next behind ≡ at = cc e in
      let none : 0 ≡ old = cc e in
      let here : word_of g c s at ≡ s.next behind = ap (word_of g c s) (sym is) in
      let some : s.next behind ≡ 0 → ⊥ = λ z. other (here ∙ z ∙ none) in
      (sym here, subst (λ y. 0 < y) (sym here) (positive (s.next behind) some))
    where
      positive : (n : ℕ) → (n ≡ 0 → ⊥) → 0 < n
      positive n some = omega (arith, some)

module _ {K P : Type 0} (g : Setting K P) (c : Coding K P) (s : State P) (last kept : Option P) where
  -- the table was linked
  pub link_exchanged : (link : Link) → ReliesLink g c s link → (at : At) (old new : ℕ) → link_ask link ≡ Ask_exchange at old new → (e : Exchange P)
      → IsCopyAsked c (link_kind link) at new s kept e
      → ReliesLinked g c (after s e) last kept (follows link) (at_exchanged link)
  link_exchanged (links.Sizing behind copied unfit) r at old new q e asked = absurd cc
  link_exchanged (links.Measuring behind copied unfit len) r at old new q e asked = absurd cc
  link_exchanged (links.Counting behind unfit len copied) r at old new q e asked = absurd cc
  link_exchanged (links.Making behind len limit chunks) r at old new q e asked = absurd cc
  link_exchanged (links.Linking behind table chunks) r at old new q e asked =
      let is : Next behind ≡ at = cc q in
      let same : table ≡ new = cc q in
      let by : IsCopyAsked c (Some kinds.Link) (Next behind) table s kept e = subst (λ a. IsCopyAsked c (Some kinds.Link) a table s kept e) (sym is)
      (subst (λ n. IsCopyAsked c (Some kinds.Link) at n s kept e) (sym same) asked) in
      let more : behind < table = r.rises in
      (subst (λ y. (after s y).next behind ≡ table) (sym by) (put_here s.next behind table), omega (arith, more))
