-- That the tables are right is one fact: it holds in no two ways. Assumes nothing.
use Prim.Native.Nat.{ℕ}
use Rattle.match_table.specs.declared.MatchRows.{MatchRows}
use Rattle.std.proofs.Props.{props}
use Rattle.rules.specs.Words.{Input}
use Rattle.rules.specs.Formula.{truth, falsity, conjunction, disjunction, box, diamond, reference}
use Rattle.rules.specs.Items.{Item, equation, subformula}
use Rattle.compiled.specs.declared.Compiled.{Compiled}
use Rattle.item_table.specs.Entries.{ItemShown}
use Rattle.item_table.specs.Facts.{action_set}
use Rattle.stepping.specs.Tables.{Tables}

item_prop : (x : Input) (i : Item) (k l r : ℕ) → IsProp (ItemShown x i k l r)
item_prop x (equation e) k l r = Prim.hlevel props
item_prop x (subformula truth) k l r = Prim.hlevel props
item_prop x (subformula falsity) k l r = Prim.hlevel props
item_prop x (subformula (conjunction f g)) k l r = Prim.hlevel props
item_prop x (subformula (disjunction f g)) k l r = Prim.hlevel props
item_prop x (subformula (box a f)) k l r = Prim.hlevel (props, action_set)
item_prop x (subformula (diamond a f)) k l r = Prim.hlevel (props, action_set)
item_prop x (subformula (reference i)) k l r = Prim.hlevel props

pub tables_prop : (x : Input) (compiled : Compiled) (matched : MatchRows) → IsProp (Tables x compiled matched)
tables_prop x compiled matched = Prim.hlevel (props, item_prop)
