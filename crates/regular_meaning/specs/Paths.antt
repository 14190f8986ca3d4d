-- What a modality of a regular formula says (document 02, #104: "1 sequence, 2 choice, 3 star, 4 plus"): the words of a
-- regular formula are lists of labels, and it leads from a state along the paths with these labels. Assumes nothing:
-- these are definitions.
use Rattle.std.specs.Prelude.{◌≡◌, Bool, true, List, [], ◌∷◌, ◌++◌, ◌⊎◌, ℕ, zero, suc}
use Rattle.rules.specs.Lists.{In}
use Rattle.rules.specs.Labels.{multiset}
use Rattle.rules.specs.System.{transition_label, transition_target, transitions}
use Rattle.rules.specs.Actions.{action_tree, matches}
use Rattle.meaning.specs.Satisfies.{MovesBy}
use Rattle.regular_rules.specs.Regular.{Regular, action, sequence, choice, star, plus}

-- ---- words

-- a word of P and then a word of Q
abbrev pub Joined : (P Q : List ℕ → Type 0) → List ℕ → Type 0
Joined P Q w = (u v : List ℕ) × (w ≡ u ++ v) × P u × Q v

-- so many words of P, one after the other
abbrev pub Times : (n : ℕ) → (P : List ℕ → Type 0) → List ℕ → Type 0
Times zero P w = w ≡ []
Times (suc n) P w = Joined P (Times n P) w

-- any number of words of P, one after the other
abbrev pub AnyTimes : (P : List ℕ → Type 0) → List ℕ → Type 0
AnyTimes P w = (n : ℕ) × Times n P w

-- the words of the labels and of the action formulas
module _ (ls acts : List ℕ) where
  -- label l matches the action formula whose first node is a
  abbrev pub matches_at : (a l : ℕ) → Bool
  matches_at a l = matches (multiset ls l) (action_tree ls acts a)

  -- the labels w are a word of the regular formula
  abbrev pub Spells : Regular → (w : List ℕ) → Type 0
  Spells (action a) w = (l : ℕ) × (matches_at a l ≡ true) × (w ≡ l ∷ [])
  Spells (sequence r q) w = Joined (Spells r) (Spells q) w
  Spells (choice r q) w = Spells r w ⊎ Spells q w
  Spells (star r) w = AnyTimes (Spells r) w
  Spells (plus r) w = Joined (Spells r) (AnyTimes (Spells r)) w

-- ---- paths

-- a path from state s to state t, along transitions with the labels w
abbrev pub Path : (ss w : List ℕ) → (s t : ℕ) → Type 0
Path ss [] s t = s ≡ t
Path ss (l ∷ w) s t =
    (i : ℕ) × In i (transitions ss s) × (transition_label ss i ≡ l) × Path ss w (transition_target ss i) t

module _ (ls ss acts : List ℕ) where
  -- a regular formula leads from s to t by each path whose labels are a word of it
  abbrev pub Leads : Regular → (s t : ℕ) → Type 0
  Leads r s t = (w : List ℕ) × Spells ls acts r w × Path ss w s t

  -- an action formula leads by one transition whose label matches it
  abbrev pub MovesAt : (a s t : ℕ) → Type 0
  MovesAt a = MovesBy ss (λ i. matches_at ls acts a (transition_label ss i))
