-- Offers over a book that keeps the resources of its pairs and tables, and its row of words.
-- Assumes `Logic`.
use Rattle.std.proofs.Common.{◌≡◌, ℕ, zero, suc, ◌+◌, ◌-◌, ◌≤◌, inl, inr, Option, None, Some, List, [], ◌∷◌, ◌++◌, refl, sym, subst, arith}
use seplogic.Ra.Ura.{Ura}
use base.Logic.{SProp, ent, sep, wand, all, upd, emp, id⊢, via, all_i, upd_i}
use base.Fml.{Fml, ftrue, fsep}
use base.Shift.{Keyless}
use types.Logic.{Logic, sem}
use types.Keyed.{entry_keyless}
use types.Kit.{‵, ◌⊛◌, ◌$◌, ◌∵◌, !, qed, by, keep, move, split, fsplit, fjoin, use1, use2, assume, suffices, done}
use denote.Steps.{nothing}
use Rattle.boxcar.specs.Table.{Where}
use Rattle.logbook.specs.Kept.{halved, offer, pens_own}
use Rattle.logbook.specs.Pages.{Book}
use Rattle.papaya_map_book.specs.Sheets.{Sheet}
use Rattle.papaya_map_book.specs.declared.rule.entry.Named.{Named}
use Rattle.papaya_map_book.specs.declared.rule.entry.Named.TheVariants as names
use Rattle.papaya_map_book.specs.declared.rule.entry.Event.{Event}
use Rattle.papaya_map_book.specs.declared.rule.entry.Event.TheVariants.{Begin, Called, Dealt, Draw, Stepped, Wish}
use Rattle.papaya_map_book.specs.Logs.{Stored, Entered, brought, dealt, name_in}
use Rattle.papaya_map_book.specs.Rows.{row_len}
use Rattle.papaya_map_book.specs.Offer.{shown, held, kept, rest_of, Added, Answered, LeavesRow, MovesRow, Moved}

module _ {M : Type 1} {𝓤 : Ura M} (𝓛 : Logic 𝓤) {K V : Type 0} (pair : Stored K V → Fml) (table : Where Sheet → Fml)
    (pair_twice : (p : Stored K V) → ent 𝓤 (sem 𝓛 (pair p)) (sep 𝓤 (sem 𝓛 (pair p)) (sem 𝓛 (pair p))))
    (table_twice : (w : Where Sheet) → ent 𝓤 (sem 𝓛 (table w)) (sep 𝓤 (sem 𝓛 (table w)) (sem 𝓛 (table w))))
    (S : Type 0) where
  abbrev Kept : List (Event K V S) → Fml
  Kept = kept pair table

  abbrev Shown : Named K V → Fml
  Shown = shown pair table

  abbrev Sm : Fml → SProp 𝓤
  Sm F = sem 𝓛 F

  -- the resources of a pair or table can be duplicated
  shown_twice : (n : Named K V) → ent 𝓤 (Sm (Shown n)) (sep 𝓤 (Sm (Shown n)) (Sm (Shown n)))
  shown_twice names.Nothing = qed 𝓛 (‵ ftrue ∷ []) ∵ nothing ! $ done !
  shown_twice (names.Pair p) = pair_twice p
  shown_twice (names.Table w) = table_twice w

  -- the resources that came with an entry can be taken beside the log
  has_shown : (log : List (Event K V S)) (n : Named K V) → Entered n log → ent 𝓤 (Sm (Kept log)) (sep 𝓤 (Sm (Kept log)) (Sm (Shown n)))
  has_shown [] n h = absurd h
  has_shown (e ∷ es) n (inl p) =
      subst (λ (m : Named K V). ent 𝓤 (Sm (fsep (Shown (brought e)) (Kept es))) (sep 𝓤 (Sm (fsep (Shown (brought e)) (Kept es))) (Sm (Shown m)))) p
      (qed 𝓛 (‵ (fsep (Shown (brought e)) (Kept es)) ∷ []) ∵ fsplit ! $ use1 𝓛 (‵ (Shown (brought e)) ⊛ ‵ (Shown (brought e)))
      (shown_twice (brought e)) $ split ! $ move ! (0 ∷ 2 ∷ []) $ fjoin ! $ done !)
  has_shown (e ∷ es) n (inr h) =
      qed 𝓛 (‵ (fsep (Shown (brought e)) (Kept es)) ∷ []) ∵ fsplit ! $ move ! (1 ∷ []) $ use1 𝓛 (‵ (Kept es) ⊛ ‵ (Shown n)) (has_shown es n h) $ split
      ! $ move ! (2 ∷ 0 ∷ []) $ fjoin ! $ done !

  -- one more entry, at the end
  one_more : (log : List (Event K V S)) (e : Event K V S) → ent 𝓤 (sep 𝓤 (Sm (Kept log)) (Sm (Shown (brought e)))) (Sm (Kept (log ++ e ∷ [])))
  one_more [] e = qed 𝓛 (‵ ftrue ∷ ‵ (Shown (brought e)) ∷ []) ∵ move ! (1 ∷ 0 ∷ []) $ fjoin ! $ done !
  one_more (d ∷ es) e =
      qed 𝓛 (‵ (fsep (Shown (brought d)) (Kept es)) ∷ ‵ (Shown (brought e)) ∷ []) ∵ fsplit ! $ move ! (1 ∷ 2 ∷ []) $ use2 𝓛 (‵ (Kept (es ++ e ∷ [])))
      (one_more es e) $ move ! (1 ∷ 0 ∷ []) $ fjoin ! $ done !

  answered : (log : List (Event K V S)) (n : Named K V) → Answered log n → ent 𝓤 (Sm (Kept log)) (sep 𝓤 (Sm (Kept log)) (Sm (Shown n)))
  answered log names.Nothing h = qed 𝓛 (‵ (Kept log) ∷ []) ∵ nothing ! $ move ! (1 ∷ 0 ∷ []) $ done !
  answered log (names.Pair p) h = has_shown log (names.Pair p) h
  answered log (names.Table w) h = has_shown log (names.Table w) h

  abbrev Held : List (Event K V S) → Fml
  Held = held pair table

  abbrev Row : List (Event K V S) → Fml
  Row log = rest_of (name_in log) (dealt log)

  abbrev Next : (Named K V → Fml) → List (Event K V S) × List (Event K V S) × Named K V → SProp 𝓤
  Next gain z = wand 𝓤 (Sm (Held z.0)) (upd 𝓤 (sep 𝓤 (Sm (Held z.1)) (Sm (gain z.2))))

  -- the log after an update, if the resources of the new entry are passed in
  added : (ask : Event K V S) (xs ys : List (Event K V S)) → Added ask xs ys → ent 𝓤 (sep 𝓤 (Sm (Kept xs)) (Sm (Shown (brought ask)))) (Sm (Kept ys))
  added ask xs ys (inl p) = subst (λ (l : List (Event K V S)). ent 𝓤 (sep 𝓤 (Sm (Kept xs)) (Sm (Shown (brought ask)))) (Sm (Kept l))) (sym p)
      (qed 𝓛 (‵ (Kept xs) ∷ ‵ (Shown (brought ask)) ∷ []) ∵ keep ! (0 ∷ []) $ by ! (id⊢ 𝓤 _))
  added ask xs ys (inr p) = subst (λ (l : List (Event K V S)). ent 𝓤 (sep 𝓤 (Sm (Kept xs)) (Sm (Shown (brought ask)))) (Sm (Kept l))) (sym p.2)
      (subst (λ (n : Named K V). ent 𝓤 (sep 𝓤 (Sm (Kept xs)) (Sm (Shown n))) (Sm (Kept (xs ++ p.0 ∷ [])))) p.1 (one_more xs p.0))

  -- the rights that are kept, if the row is unchanged
  row_same : (xs ys : List (Event K V S)) → name_in ys ≡ name_in xs → dealt ys ≡ dealt xs → ent 𝓤 (Sm (Row xs)) (Sm (Row ys))
  row_same xs ys e f = subst (λ (z : Option Book × ℕ). ent 𝓤 (Sm (Row xs)) (Sm (rest_of z.0 z.1))) (λ i. (sym e i, sym f i)) (id⊢ 𝓤 _)

  row_left : (ask : Event K V S) (xs ys : List (Event K V S)) → LeavesRow ask → MovesRow ask xs ys → ent 𝓤 (Sm (Row xs)) (Sm (Row ys))
  row_left (Wish at kind made n) xs ys l m = row_same xs ys m.0 m.1
  row_left (Draw book first count) xs ys l m = absurd l
  row_left (Begin b) xs ys l m = row_same xs ys m.0 m.1
  row_left (Called b) xs ys l m = absurd l
  row_left (Dealt seal count) xs ys l m = row_same xs ys m.0 m.1
  row_left (Stepped e) xs ys l m = row_same xs ys m.0 m.1

  -- an offer is made of the resources of the pair or table that comes
  offers : (ask : Event K V S) → LeavesRow ask → ent 𝓤 (Sm (Shown (brought ask))) (Sm (offer Held (Moved ask) Shown))
  offers ask leaves =
      all_i 𝓤 (λ (z : List (Event K V S) × List (Event K V S) × Named K V). all 𝓤 (λ (_ : Moved ask z.0 z.1 z.2). Next Shown z)) (λ z.
      all_i 𝓤 (λ (_ : Moved ask z.0 z.1 z.2). Next Shown z) (λ m. qed 𝓛 (‵ (Shown (brought ask)) ∷ []) ∵ assume ! (‵ (Held z.0)) $
      suffices ! _ (upd_i 𝓤 (sep 𝓤 (Sm (Held z.1)) (Sm (Shown z.2)))) $
      fsplit ! $ move ! (1 ∷ []) $ use1 𝓛 (‵ (Row z.1)) (row_left ask z.0 z.1 leaves m.2) $ move ! (1 ∷ 2 ∷ []) $
      use2 𝓛 (‵ (Kept z.1)) (added ask z.0 z.1 m.0) $
      use1 𝓛 (‵ (Kept z.1) ⊛ ‵ (Shown z.2)) (answered z.1 z.2 m.1) $ split ! $ move ! (0 ∷ 2 ∷ []) $ fjoin ! $ done !))

  -- an offer with which nothing comes needs no resources
  pub bare_offer : (ask : Event K V S) → brought ask ≡ names.Nothing → LeavesRow ask → ent 𝓤 (emp 𝓤) (Sm (offer Held (Moved ask) Shown))
  bare_offer ask e leaves = via 𝓤 (Sm ftrue) (qed 𝓛 [] ∵ nothing ! $ done !)
      (subst (λ (n : Named K V). ent 𝓤 (Sm (Shown n)) (Sm (offer Held (Moved ask) Shown))) e (offers ask leaves))

  -- an event that brings a pair or a table leaves the row
  leaves_with : (ask : Event K V S) → (brought ask ≡ names.Nothing → ⊥) → LeavesRow ask
  leaves_with (Wish at kind made n) h = tt
  leaves_with (Draw book first count) h = h refl
  leaves_with (Begin b) h = tt
  leaves_with (Called b) h = h refl
  leaves_with (Dealt seal count) h = tt
  leaves_with (Stepped e) h = tt

  -- an offer with a pair, or with a table
  pub pair_offer : (ask : Event K V S) (p : Stored K V) → brought ask ≡ names.Pair p → ent 𝓤 (Sm (pair p)) (Sm (offer Held (Moved ask) Shown))
  pair_offer ask p e = subst (λ (n : Named K V). ent 𝓤 (Sm (Shown n)) (Sm (offer Held (Moved ask) Shown))) e (offers ask (leaves_with ask (λ i. cc (i, e))))

  pub table_offer : (ask : Event K V S) (w : Where Sheet) → brought ask ≡ names.Table w → ent 𝓤 (Sm (table w)) (Sm (offer Held (Moved ask) Shown))
  table_offer ask w e = subst (λ (n : Named K V). ent 𝓤 (Sm (Shown n)) (Sm (offer Held (Moved ask) Shown))) e (offers ask (leaves_with ask (λ i. cc (i, e))))

  -- the log, if nothing comes
  bare_added : (ask : Event K V S) → brought ask ≡ names.Nothing → (xs ys : List (Event K V S)) → Added ask xs ys → ent 𝓤 (Sm (Kept xs)) (Sm (Kept ys))
  bare_added ask e xs ys a =
      qed 𝓛 (‵ (Kept xs) ∷ []) ∵ nothing ! $ move ! (1 ∷ 0 ∷ []) $
      use2 𝓛 (‵ (Kept ys)) (subst (λ (n : Named K V). ent 𝓤 (sep 𝓤 (Sm (Kept xs)) (Sm (Shown n))) (Sm (Kept ys))) e (added ask xs ys a)) $ done !

  -- an offer that passes the row to the book
  pub row_offer : (book : Book) → ent 𝓤 (Sm (pens_own book.cells_name 3 row_len)) (Sm (offer Held (Moved (Called book)) Shown))
  row_offer book =
      let ask : Event K V S = Called book in
      all_i 𝓤 (λ (z : List (Event K V S) × List (Event K V S) × Named K V). all 𝓤 (λ (_ : Moved ask z.0 z.1 z.2). Next Shown z)) (λ z.
      all_i 𝓤 (λ (_ : Moved ask z.0 z.1 z.2). Next Shown z) (λ m.
      let rest : row_len ≡ row_len - 0 = omega arith in
      let gives : ent 𝓤 (Sm (pens_own book.cells_name 3 row_len)) (Sm (Row z.1)) =
      subst (λ (t : Option Book × ℕ). ent 𝓤 (Sm (pens_own book.cells_name 3 row_len)) (Sm (rest_of t.0 t.1))) (λ i. (sym m.2.0 i, sym m.2.1 i))
      (subst (λ (n : ℕ). ent 𝓤 (Sm (pens_own book.cells_name 3 row_len)) (Sm (pens_own book.cells_name 3 n))) rest (id⊢ 𝓤 _)) in
      qed 𝓛 (‵ (pens_own book.cells_name 3 row_len) ∷ []) ∵ use1 𝓛 (‵ (Row z.1)) gives $ assume ! (‵ (Held z.0)) $
      suffices ! _ (upd_i 𝓤 (sep 𝓤 (Sm (Held z.1)) (Sm (Shown z.2)))) $
      fsplit ! $ use1 𝓛 (‵ (Kept z.1)) (bare_added ask refl z.0 z.1 m.0) $
      use1 𝓛 (‵ (Kept z.1) ⊛ ‵ (Shown z.2)) (answered z.1 z.2 m.1) $ split ! $ move ! (0 ∷ 3 ∷ 1 ∷ []) $ fjoin ! $ keep ! (0 ∷ 1 ∷ []) $ done !))

  -- the rights of a row are those of its beginning, and of the rest
  rights_split : (δ k m n : ℕ) → ent 𝓤 (Sm (pens_own δ k (m + n))) (sep 𝓤 (Sm (pens_own δ k m)) (Sm (pens_own δ (k + m) n)))
  rights_split δ k zero n =
      let same : k ≡ k + 0 = omega arith in let all : n ≡ 0 + n = omega arith in
      subst (λ (t : ℕ × ℕ). ent 𝓤 (Sm (pens_own δ k t.0)) (sep 𝓤 (Sm ftrue) (Sm (pens_own δ t.1 n)))) (λ i. (all i, same i))
      (qed 𝓛 (‵ (pens_own δ k n) ∷ []) ∵ nothing ! $ done !)
  rights_split δ k (suc m) n =
      let on : suc k + m ≡ k + suc m = omega arith in let all : suc (m + n) ≡ suc m + n = omega arith in
      subst (λ (t : ℕ × ℕ). ent 𝓤 (Sm (pens_own δ k t.0)) (sep 𝓤 (Sm (pens_own δ k (suc m))) (Sm (pens_own δ t.1 n)))) (λ i. (all i, on i))
      (qed 𝓛 (‵ (pens_own δ k (suc (m + n))) ∷ []) ∵ fsplit ! $ move ! (1 ∷ []) $
      use1 𝓛 (‵ (pens_own δ (suc k) m) ⊛ ‵ (pens_own δ (suc k + m) n)) (rights_split δ (suc k) m n) $ split ! $ move ! (2 ∷ 0 ∷ []) $ fjoin ! $ done !)

  -- the words that are drawn from the rest of a row
  draws : (book : Book) (given first count : ℕ) → first ≡ 3 + given → given + count ≤ row_len
      → ent 𝓤 (Sm (rest_of (Some book) given)) (sep 𝓤 (Sm (pens_own book.cells_name first count)) (Sm (rest_of (Some book) (given + count))))
  draws book given first count is fits =
      let all : count + (row_len - (given + count)) ≡ row_len - given = omega arith in let on : first + count ≡ 3 + (given + count) = omega arith in
      subst (λ (t : ℕ × ℕ × ℕ). ent 𝓤 (Sm (pens_own book.cells_name t.0 t.1))
      (sep 𝓤 (Sm (pens_own book.cells_name first count)) (Sm (pens_own book.cells_name t.2 (row_len - (given + count)))))) (λ i. (is i, all i, on i))
      (rights_split book.cells_name first count (row_len - (given + count)))

  -- an offer that draws words
  pub draw_offer : (book : Book) (first count : ℕ) → ent 𝓤 (emp 𝓤) (Sm (offer Held (Moved (Draw book first count)) (λ a. pens_own book.cells_name first count)))
  draw_offer book first count =
      let ask : Event K V S = Draw book first count in let Gain : Named K V → Fml = λ a. pens_own book.cells_name first count in
      all_i 𝓤 (λ (z : List (Event K V S) × List (Event K V S) × Named K V). all 𝓤 (λ (_ : Moved ask z.0 z.1 z.2). Next Gain z)) (λ z.
      all_i 𝓤 (λ (_ : Moved ask z.0 z.1 z.2). Next Gain z) (λ m.
      let row = m.2 in
      let takes : ent 𝓤 (Sm (Row z.0)) (sep 𝓤 (Sm (pens_own book.cells_name first count)) (Sm (Row z.1))) =
      subst (λ (t : Option Book × Option Book × ℕ).
      ent 𝓤 (Sm (rest_of t.0 (dealt z.0))) (sep 𝓤 (Sm (pens_own book.cells_name first count)) (Sm (rest_of t.1 t.2))))
      (λ i. (sym row.0 i, sym row.3 i, sym row.4 i))
      (draws book (dealt z.0) first count row.1 row.2) in
      qed 𝓛 [] ∵ assume ! (‵ (Held z.0)) $
      suffices ! _ (upd_i 𝓤 (sep 𝓤 (Sm (Held z.1)) (Sm (Gain z.2)))) $
      fsplit ! $ move ! (1 ∷ []) $ use1 𝓛 (‵ (pens_own book.cells_name first count) ⊛ ‵ (Row z.1)) takes $ split ! $ move ! (2 ∷ []) $
      use1 𝓛 (‵ (Kept z.1)) (bare_added ask refl z.0 z.1 m.0) $ move ! (0 ∷ 2 ∷ []) $ fjoin ! $ done !))

-- the resources that are kept name no token of one thread
module _ {K V : Type 0} (pair : Stored K V → Fml) (table : Where Sheet → Fml) (pair_keyless : (p : Stored K V) → Keyless (pair p))
    (table_keyless : (w : Where Sheet) → Keyless (table w)) where
  shown_keyless : (n : Named K V) → Keyless (shown pair table n)
  shown_keyless names.Nothing = tt
  shown_keyless (names.Pair p) = pair_keyless p
  shown_keyless (names.Table w) = table_keyless w

  kept_keyless : {S : Type 0} (log : List (Event K V S)) → Keyless (kept pair table log)
  kept_keyless [] = tt
  kept_keyless (e ∷ es) = (shown_keyless (brought e), kept_keyless es)

  rights_keyless : (δ k n : ℕ) → Keyless (pens_own δ k n)
  rights_keyless δ k zero = tt
  rights_keyless δ k (suc n) = (entry_keyless halved δ k _, rights_keyless δ (suc k) n)

  rest_keyless : (o : Option Book) (given : ℕ) → Keyless (rest_of o given)
  rest_keyless None given = tt
  rest_keyless (Some book) given = rights_keyless book.cells_name (3 + given) (row_len - given)

  pub held_keyless : {S : Type 0} (log : List (Event K V S)) → Keyless (held pair table log)
  held_keyless log = (kept_keyless log, rest_keyless (name_in log) (dealt log))
