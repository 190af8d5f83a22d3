-- How much is left to the making of a table after each answer.
use Rattle.std.proofs.Common.{◌≡◌, inl, inr, ℕ, ◌^◌, ◌==◌, nat_le, sym, ◌∙◌, subst, arith}
use Rattle.std.proofs.lemmas.Bool.{cond_both}
use Rattle.papaya_words.specs.Chunks.{chunk_count, chunk_len}
use Rattle.papaya_words.specs.Table.{length_after}
use Rattle.papaya_words.specs.declared.resize_mode.ResizeMode.{ResizeMode}
use Rattle.papaya_words.specs.declared.refused.Refused.TheVariants.{Capacity}
use Rattle.papaya_call.specs.declared.ask.At.{At}
use Rattle.papaya_call.specs.declared.ask.At.TheVariants.{Next}
use Rattle.papaya_call.specs.declared.ask.At.TheVariants as words_at
use Rattle.papaya_call.specs.declared.ask.Answer.TheVariants.{Exchanged, Size}
use Rattle.papaya_call.specs.declared.copy.link.Link.{Link}
use Rattle.papaya_call.specs.declared.copy.link.Link.TheVariants as links
use Rattle.papaya_call.specs.declared.copy.link.Linked.TheVariants as linked
use Rattle.papaya_call.specs.Link.{link_ask, making}
use Rattle.papaya_call.specs.declared.chain.ask.Answer.{Answer}
use Rattle.papaya_call.specs.declared.chain.ask.Answer.TheVariants as answers
use Rattle.papaya_call.specs.ChainMachine.{link_after}
use Rattle.papaya_call_law.specs.Alone.{IsPut}
use Rattle.papaya_call_law.proofs.AloneSteps.{exchange_done}
use Rattle.papaya_call_alone.specs.Prompt.{IsCopyPrompt}
use Rattle.papaya_call_alone.specs.Measure.{left_of_link, left_of_linked}
use Rattle.papaya_call_alone.specs.Current.{IsLinkRead, IsLinkedRead}
use Rattle.papaya_call_alone.proofs.Telling.{IsPutAt, Nears, by_making}

-- it exchanges a next table alone
abbrev pub IsNoNext : At → Type 0
IsNoNext (words_at.Next t) = ⊥
IsNoNext _ = Unit {0}

pub link_puts : (link : Link) (other : At) → IsNoNext other → IsPutAt (link_ask link) other → ⊥
link_puts (links.Sizing behind source unfit) other h e = e
link_puts (links.Measuring behind source unfit len) other h e = e
link_puts (links.Counting behind unfit len source) other h e = e
link_puts (links.Making behind len limit chunks) other h e = e
link_puts (links.Linking behind table chunks) other h e = subst IsNoNext e h

module _ (mode : ResizeMode) (words words' : At → ℕ) (initial : ℕ) where
  -- after this answer
  abbrev pub LinkEnds : Link → Answer → Type 0
  LinkEnds link answer = Nears answer (left_of_linked (link_after link mode initial answer)) (left_of_link link)
      × IsLinkedRead words' (link_after link mode initial answer)

  -- in each state
  pub link_ends : (link : Link) (answer : Answer) → IsLinkRead words link → IsCopyPrompt words (link_ask link) answer words' → LinkEnds link answer
  link_ends (links.Sizing behind source unfit) answer read told =
      let (slots, limit, size, e) = told.0 in
      subst (LinkEnds (links.Sizing behind source unfit)) (sym e)
      (cond_both (source == behind) (links.Counting behind unfit slots slots) (links.Measuring behind source unfit slots)
      (λ l. Nears (answers.Call (Size slots limit)) (left_of_link l) 5 × IsLinkRead words' l)
      (λ same. (inr (omega arith), told.1 (Next behind) ∙ read))
      (λ other. (inr (omega arith), told.1 (Next behind) ∙ read)))
  link_ends (links.Measuring behind source unfit len) answer read told =
      let (slots, limit, size, e) = told.0 in
      subst (LinkEnds (links.Measuring behind source unfit len)) (sym e) (inr (omega arith), told.1 (Next behind) ∙ read)
  link_ends (links.Counting behind unfit len source) answer read told =
      let asked : ℕ = length_after len told.0.0 initial unfit in
      let chunks : ℕ = chunk_count source (chunk_len mode) in
      subst (LinkEnds (links.Counting behind unfit len source)) (sym told.0.1)
      (cond_both (nat_le asked (2 ^ 32)) (linked.On (making behind len unfit chunks asked)) (linked.Refused Capacity)
      (λ l. Nears (answers.Count told.0.0) (left_of_linked l) 3 × IsLinkedRead words' l)
      (λ fits. (inr (omega arith), told.1 (Next behind) ∙ read))
      (λ over. (inr (omega arith), tt)))
  link_ends (links.Making behind len limit chunks) answer read told =
      by_making (LinkEnds (links.Making behind len limit chunks)) answer told.0
      (λ n. (inl tt, told.1 (Next behind) ∙ read))
      (λ refused. (inr (omega arith), tt))
  link_ends (links.Linking behind table chunks) answer read told =
      let done : (answer ≡ answers.Call Exchanged) × IsPut words (Next behind) table words' = exchange_done _ _ (words (Next behind)) 0 read told in
      subst (LinkEnds (links.Linking behind table chunks)) (sym done.0) (inl tt, tt)
