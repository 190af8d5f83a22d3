-- Two lists of allowed exchanges, one in each mode, which together have every kind: the conditions
-- can be met.
use Rattle.std.proofs.Common.{◌≡◌, inl, inr, ℕ, zero, suc, ◌<◌, ◌==◌, Bool, true, false, cond, [], ◌∷◌, refl, sym, ◌∙◌, arith, eqb-true, eq-eqb}
use Rattle.papaya_words_law.specs.Exchange.{State, Take, Open, Claim, Replace, Link, Mark, Close, Place, Finish, Abort, start, run, walk}
use Rattle.papaya_words_law.specs.View.{look, beyond, foreign}
use Rattle.papaya_words_law.specs.Copying.{IsSettled}
use Rattle.papaya_words_law.specs.Allows.{AllAllowed}
use Rattle.papaya_words_law.specs.Meaning.{IsLawful}
use Rattle.papaya_words_law.specs.Example.{by_two, two_tables, of_one, three_tables}

-- equality of numbers is lawful
same_back : (k l : ℕ) → (k == l) ≡ true → (l == k) ≡ true
same_back k l e = eq-eqb l k (sym (eqb-true k l e))

-- and transitive
same_through : (k l m : ℕ) → (k == l) ≡ true → (l == m) ≡ true → (k == m) ≡ true
same_through k l m a b = eq-eqb k m (eqb-true k l a ∙ eqb-true l m b)

-- the first setting is lawful
pub by_two_lawful : IsLawful by_two
by_two_lawful = record {
  itself = λ k. eq-eqb k k refl;
  back = same_back;
  through = same_through;
  places_same = λ k l e t j.
      refl;
  within = λ k t j lt. lt;
  some_place = λ t. omega arith;
  some_slot = λ t. omega arith;
}

-- a table of one slot or of two
place_within : (b : Bool) (j : ℕ) → j < cond b 1 2 → cond b 0 j < cond b 1 2
place_within true j lt = omega arith
place_within false j lt = lt

-- has one
some_slot : (b : Bool) → 0 < cond b 1 2
some_slot true = omega arith
some_slot false = omega arith

-- the second setting is lawful
pub of_one_lawful : IsLawful of_one
of_one_lawful = record {
  itself = λ k. eq-eqb k k refl;
  back = same_back;
  through = same_through;
  places_same = λ k l e t j.
      refl;
  within = λ k t j lt. place_within (t == 2) j lt;
  some_place = λ t. some_slot (t == 2);
  some_slot = λ t. some_slot (t == 2);
}

-- the numbers below 2
below_two : (Q : ℕ → Type 0) → Q 0 → Q 1 → (x : ℕ) → x < 2 → Q x
below_two Q a b zero h = a
below_two Q a b (suc zero) h = b
below_two Q a b (suc (suc n)) h = absurd (omega arith)

-- after eight exchanges
abbrev eight : State ℕ
eight = run {P = ℕ} (Take 0 ∷ Open 1 ∷ Claim 1 0 70 ∷ Replace 1 0 70 71 ∷ Link 1 2 ∷ Mark 1 0 71 ∷ Place 2 0 71 ∷ Finish 1 0 71 ∷ Close 1 1 ∷ []) start

-- without blocking
pub one_walk : AllAllowed by_two start two_tables
one_walk = (
  (refl, omega arith),
  (
    (refl, omega arith),
    (
      record {
        empty = refl;
        reached = record {
          from = 1;
          links = 0;
          was = refl;
          is = refl;
          made = omega arith;
          mode = inl refl;
          passed = λ i lt.
              absurd (omega arith);
        };
        place = record { at = 0; within = omega arith; is = refl; before = λ i lt. absurd (omega arith) };
      },
      (
        record {
          live = refl;
          reached = record {
            from = 1;
            links = 0;
            was = refl;
            is = refl;
            made = omega arith;
            mode = inl refl;
            passed = λ i lt.
                absurd (omega arith);
          };
          same = refl;
          kept = refl;
        },
        (
          record { last = refl; on = (omega arith, (0, refl)); rises = omega arith; from = 1; linking = inl (refl, λ b. refl); covers = λ x lt. omega arith },
          (
            record { live = refl; was = refl; further = omega arith },
            (
              record {
                empty = refl;
                source = record {
                  from = 1;
                  slot = 0;
                  stood = inl refl;
                  taker = record { links = 0; is = refl; made = omega arith; over = λ i lt. absurd (omega arith) };
                };
                place = record { at = 0; within = omega arith; is = refl; before = λ i lt. absurd (omega arith) };
              },
              (
                record {
                  marked = refl;
                  mode = refl;
                  to = 2;
                  taker = record { links = 0; is = refl; made = omega arith; over = λ i lt. absurd (omega arith) };
                  has = (0, omega arith, refl);
                },
                (
                  record { empty = refl; was = refl; further = omega arith },
                  (
                    record {
                      done = refl;
                      from = 1;
                      slot = 0;
                      in_chunk = refl;
                      target = record { links = 0; is = refl; made = omega arith; mode = inl refl; over = λ i lt. absurd (omega arith) };
                      within = omega arith;
                      settled = λ x lo hi. below_two (λ y. IsSettled by_two eight 2 (eight.slot 1 y)) tt tt x lo;
                    },
                    (
                      record {
                        root = refl;
                        made = omega arith;
                        target = record { links = 0; is = refl; made = omega arith; mode = inl refl; over = λ i lt. absurd (omega arith) };
                        whole = λ x lt. refl;
                      },
                      (
                        record {
                          live = refl;
                          reached = record {
                            from = 2;
                            links = 0;
                            was = refl;
                            is = refl;
                            made = omega arith;
                            mode = inl refl;
                            passed = λ i lt. absurd (omega arith);
                          };
                        },
                        tt,
                      ),
                    ),
                  ),
                ),
              ),
            ),
          ),
        ),
      ),
    ),
  ),
)

-- the numbers below 1
below_one : (Q : ℕ → Type 0) → Q 0 → (x : ℕ) → x < 1 → Q x
below_one Q a zero h = a
below_one Q a (suc n) h = absurd (omega arith)

-- with blocking, after seven exchanges
abbrev at_seven : State ℕ
at_seven = run {P = ℕ} (Open 1 ∷ Claim 1 0 70 ∷ Claim 1 1 80 ∷ Link 1 2 ∷ Mark 1 0 70 ∷ Mark 1 1 80 ∷ Place 2 0 70 ∷ []) start

-- after two more
abbrev at_nine : State ℕ
at_nine = run {P = ℕ} (Abort 2 ∷ Link 2 3 ∷ []) at_seven

-- and after two more
abbrev at_eleven : State ℕ
at_eleven = run {P = ℕ} (Place 3 0 70 ∷ Place 3 1 80 ∷ []) at_nine

-- with blocking
pub one_abort : AllAllowed of_one start three_tables
one_abort = (
  (refl, omega arith),
  (
    record {
      empty = refl;
      reached = record {
        from = 1;
        links = 0;
        was = refl;
        is = refl;
        made = omega arith;
        mode = inl refl;
        passed = λ i lt.
            absurd (omega arith);
      };
      place = record { at = 0; within = omega arith; is = refl; before = λ i lt. absurd (omega arith) };
    },
    (
      record {
        empty = refl;
        reached = record { from = 1; links = 0; was = refl; is = refl; made = omega arith; mode = inl refl; passed = λ i lt. absurd (omega arith) };
        place = record {
          at = 1;
          within = omega arith;
          is = refl;
          before = λ i lt.
              below_one (λ y. beyond (look of_one (run (Open 1 ∷ Claim 1 0 70 ∷ []) start) 8 1 y) ≡ true) refl i lt;
        };
      },
      (
        record { last = refl; on = (omega arith, (0, refl)); rises = omega arith; from = 1; linking = inl (refl, λ b. refl); covers = λ x lt. omega arith },
        (
          record { live = refl; was = refl; further = omega arith },
          (
            record { live = refl; was = refl; further = omega arith },
            (
              record {
                empty = refl;
                source = record {
                  from = 1;
                  slot = 0;
                  stood = inl refl;
                  taker = record { links = 0; is = refl; made = omega arith; over = λ i lt. absurd (omega arith) };
                };
                place = record { at = 0; within = omega arith; is = refl; before = λ i lt. absurd (omega arith) };
              },
              (
                record {
                  before = refl;
                  mode = refl;
                  pair = 80;
                  source = record {
                    from = 1;
                    slot = 1;
                    stood = inl refl;
                    taker = record { links = 0; is = refl; made = omega arith; over = λ i lt. absurd (omega arith) };
                  };
                  full = λ i lt. below_one (λ y. foreign (look of_one at_seven 8 2 y) ≡ true) refl i lt;
                },
                (
                  record {
                    last = refl;
                    on = (omega arith, (1, refl));
                    rises = omega arith;
                    from = 1;
                    linking = inr
                        (refl, refl, record { links = 0; is = refl; made = omega arith; mode = inr refl; over = λ i lt. absurd (omega arith) }, refl);
                    covers = λ x lt. omega arith;
                  },
                  (
                    record {
                      empty = refl;
                      source = record {
                        from = 1;
                        slot = 0;
                        stood = inl refl;
                        taker = record {
                          links = 1;
                          is = refl;
                          made = omega arith;
                          over = λ i lt.
                              inl (refl, below_one (λ y. at_nine.aborted (walk at_nine.next (suc y) 1) ≡ true) refl i lt);
                        };
                      };
                      place = record { at = 0; within = omega arith; is = refl; before = λ i lt. absurd (omega arith) };
                    },
                    (
                      record {
                        empty = refl;
                        source = record {
                          from = 1;
                          slot = 1;
                          stood = inl refl;
                          taker = record {
                            links = 1;
                            is = refl;
                            made = omega arith;
                            over = λ i lt.
                                inl (refl, below_one (λ y. at_nine.aborted (walk at_nine.next (suc y) 1) ≡ true) refl i lt);
                          };
                        };
                        place = record {
                          at = 1;
                          within = omega arith;
                          is = refl;
                          before = λ i lt.
                              below_one (λ y. foreign (look of_one (run (Place 3 0 70 ∷ []) at_nine) 8 3 y) ≡ true) refl i lt;
                        };
                      },
                      (
                        record {
                          done = refl;
                          from = 1;
                          slot = 0;
                          in_chunk = refl;
                          within = omega arith;
                          target = record {
                            links = 1;
                            is = refl;
                            made = omega arith;
                            mode = inr refl;
                            over = λ i lt.
                                below_one (λ y. at_eleven.aborted (walk at_eleven.next (suc y) 1) ≡ true) refl i lt;
                          };
                          settled = λ x lo hi. below_two (λ y. IsSettled of_one at_eleven 3 (at_eleven.slot 1 y)) (refl, (0, omega arith, refl))
                              (refl, (1, omega arith, refl)) x lo;
                        },
                        (
                          record {
                            root = refl;
                            made = omega arith;
                            whole = λ x lt. refl;
                            target = record {
                              links = 1;
                              is = refl;
                              made = omega arith;
                              mode = inr refl;
                              over = λ i lt.
                                  below_one (λ y. at_eleven.aborted (walk at_eleven.next (suc y) 1) ≡ true) refl i lt;
                            };
                          },
                          tt,
                        ),
                      ),
                    ),
                  ),
                ),
              ),
            ),
          ),
        ),
      ),
    ),
  ),
)
