-- What holds of a call's answer holds of the answer that the lent words say, once they are its words. Assumes nothing.
use mathlib.Core.Path.{◌≡◌, ap, ◌∙◌}
use mathlib.Core.List.{List}
use Prim.Native.Nat.{ℕ}
use native.Mathlib.Omega.{arith}
use Rattle.rules.specs.declared.Answer.{Answer}
use Rattle.rules.specs.declared.Answer.TheVariants.{Done, Cut, Refused}
use Rattle.rules.specs.Lists.{word}
use Rattle.rules.specs.declared.Room.{Room}
use Rattle.rules.specs.Words.{Input}
use Rattle.rules.specs.Answers.{said, Says, Accepted}
use Rattle.rules.specs.Depth.{by_depth}
use Rattle.rules.specs.Run.{Outcome, run}
use Rattle.rules.specs.Demands.{Demand1, Demand3}
use Rattle.rules.specs.Restrict.{Restricted, reached_vertices, restriction}
use Rattle.rules.specs.Restricts.{Restricts, RestrictionDemand1}
use Rattle.rules.specs.Texts.{Written}
use Rattle.rules.specs.PgsolverWriting.{written_game}
use Rattle.rules.specs.PgsolverReading.{Readback, read_game}
use Rattle.rules.specs.PgsolverCalls.{WritingDemand, ReadingDemand}
use Rattle.satisfaction.specs.Claims.{NoFalsePass}
use Rattle.regular_rules.specs.Refusals.{RegularInput}
use Rattle.regular_rules.specs.Expansion.{Expansion, expansion}
use Rattle.regular_rules.specs.Accepts.{ExpansionDemand}
use Rattle.regular_meaning.specs.Claims.{WrittenMeans}

-- the first word tells the kind of an answer
unlike : (a b : Answer) → said a ≡ said b → (¬ (word (said a) 0 ≡ word (said b) 0)) → a ≡ b
unlike a b h n = absurd (n (ap (λ (l : List ℕ). word l 0) h))

-- two answers with the same words are equal
pub said_once : (a b : Answer) → said a ≡ said b → a ≡ b
unfolding said
said_once (Done s v e) (Done t w f) h = λ i. Done (word (h i) 1) (word (h i) 2) (word (h i) 3)
said_once (Cut s v e) (Cut t w f) h = λ i. Cut (word (h i) 1) (word (h i) 2) (word (h i) 3)
said_once (Refused n p) (Refused m q) h = λ i. Refused (word (h i) 1) (word (h i) 2)
said_once (Done s v e) (Cut t w f) h = unlike (Done s v e) (Cut t w f) h (λ z. omega arith)
said_once (Done s v e) (Refused n p) h = unlike (Done s v e) (Refused n p) h (λ z. omega arith)
said_once (Cut s v e) (Done t w f) h = unlike (Cut s v e) (Done t w f) h (λ z. omega arith)
said_once (Cut s v e) (Refused n p) h = unlike (Cut s v e) (Refused n p) h (λ z. omega arith)
said_once (Refused n p) (Done t w f) h = unlike (Refused n p) (Done t w f) h (λ z. omega arith)
said_once (Refused n p) (Cut t w f) h = unlike (Refused n p) (Cut t w f) h (λ z. omega arith)

-- what the run promises of the answer and the two slices
module _ (x : Input) (r : Room) (k : ℕ) (game work g w : List ℕ) where
  pub run_carried : (ws : List ℕ) (a : Answer) → ws ≡ said a
      → (◌≡◌ {A = Outcome} (record { answer = a; game = g; work = w }) (run by_depth x r k game work))
      × ((said a ≡ said (run by_depth x r k game work).answer)
      × ((Demand1 x r k game work a g w) × ((Demand3 by_depth x k a g) × NoFalsePass x a g)))
      → (ws ≡ said (run by_depth x r k game work).answer)
      × (Says ws (λ b. ◌≡◌ {A = Outcome} (record { answer = b; game = g; work = w }) (run by_depth x r k game work))
      × (Says ws (λ b. Demand1 x r k game work b g w)
      × (Says ws (λ b. Demand3 by_depth x k b g) × Says ws (λ b. NoFalsePass x b g))))
  run_carried ws a e (p, (c, (q, (s, m)))) = (e ∙ c, ((a, e, p), ((a, e, q), ((a, e, s), (a, e, m)))))

-- what the restriction promises
module _ (game out mapping work h ns w : List ℕ) where
  pub restriction_carried : (ws : List ℕ) (a : Answer) → ws ≡ said a
      → (◌≡◌ {A = Restricted} (record { answer = a; out = h; mapping = ns; work = w })
      (restriction game out mapping work))
      × ((said a ≡ said (restriction game out mapping work).answer)
      × ((Accepted a → Restricts game a h ns (reached_vertices game))
      × RestrictionDemand1 game out mapping work a h ns w))
      → (ws ≡ said (restriction game out mapping work).answer)
      × (Says ws (λ b. ◌≡◌ {A = Restricted} (record { answer = b; out = h; mapping = ns; work = w })
      (restriction game out mapping work))
      × (Says ws (λ b. Accepted b → Restricts game b h ns (reached_vertices game))
      × Says ws (λ b. RestrictionDemand1 game out mapping work b h ns w)))
  restriction_carried ws a e (p, (c, (q, d))) = (e ∙ c, ((a, e, p), ((a, e, q), (a, e, d))))

-- what the writer of PGSolver text promises
module _ (game text t : List ℕ) where
  pub writing_carried : (ws : List ℕ) (a : Answer) → ws ≡ said a
      → (◌≡◌ {A = Written} (record { answer = a; text = t }) (written_game game text))
      × ((said a ≡ said (written_game game text).answer) × WritingDemand game text a t)
      → (ws ≡ said (written_game game text).answer)
      × (Says ws (λ b. ◌≡◌ {A = Written} (record { answer = b; text = t }) (written_game game text))
      × Says ws (λ b. WritingDemand game text b t))
  writing_carried ws a e (p, (c, d)) = (e ∙ c, ((a, e, p), (a, e, d)))

-- what the reader promises
module _ (r : Room) (text game g : List ℕ) where
  pub reading_carried : (ws : List ℕ) (a : Answer) → ws ≡ said a
      → (◌≡◌ {A = Readback} (record { answer = a; game = g }) (read_game r text game))
      × ((said a ≡ said (read_game r text game).answer) × ReadingDemand r text game a g)
      → (ws ≡ said (read_game r text game).answer)
      × (Says ws (λ b. ◌≡◌ {A = Readback} (record { answer = b; game = g }) (read_game r text game))
      × Says ws (λ b. ReadingDemand r text game b g))
  reading_carried ws a e (p, (c, d)) = (e ∙ c, ((a, e, p), (a, e, d)))

-- what the expansion promises
module _ (x : RegularInput) (out o : List ℕ) where
  pub expansion_carried : (ws : List ℕ) (a : Answer) → ws ≡ said a
      → (◌≡◌ {A = Expansion} (record { answer = a; out = o }) (expansion x out))
      × (ExpansionDemand x out a o × WrittenMeans x a o)
      → (ws ≡ said (expansion x out).answer)
      × (Says ws (λ b. ◌≡◌ {A = Expansion} (record { answer = b; out = o }) (expansion x out))
      × (Says ws (λ b. ExpansionDemand x out b o) × Says ws (λ b. WrittenMeans x b o)))
  expansion_carried ws a e (p, (d, m)) = (e ∙ ap (λ (y : Expansion). said y.answer) p, ((a, e, p), ((a, e, d), (a, e, m))))
