-- A rule book as its reader sees it: the ledger. And which rules it may hold.
use Rattle.std.specs.Prelude.{◌≡◌, ℕ, Bool, true, ◌&&◌, List, length, nat_le, nat_lt}
use Rattle.std.specs.List.{list_all}
use Rattle.book.specs.declared.rule.Head.{Head}
use Rattle.book.specs.declared.rule.Head.TheVariants.{Statement, Bound}
use Rattle.book.specs.declared.rule.Literal.{Literal}
use Rattle.book.specs.declared.rule.Literal.TheVariants.{Plain, Above, Lacking}

-- a rule: the product of its weight and body stays below its head
pub record Clause : Type 0 where
  pub head : Head
  pub weight : ℕ
  pub body : List Literal

abbrev pub clause : Head → ℕ → List Literal → Clause
clause head weight body = record { head = head; weight = weight; body = body }

-- the levels, the number of statements and the rules, in their order
pub record Ledger : Type 0 where
  pub levels : ℕ
  pub statements : ℕ
  pub rules : List Clause

abbrev pub head_known : ℕ → Head → Bool
head_known statements (Statement s) = nat_lt s statements
head_known statements (Bound d) = true

abbrev pub literal_known : ℕ → Literal → Bool
literal_known statements (Plain s) = nat_lt s statements
literal_known statements (Above s d) = nat_lt s statements
literal_known statements (Lacking s) = nat_lt s statements

-- the rule names only statements that there are
abbrev pub known : ℕ → Clause → Bool
known statements c = head_known statements c.head && list_all (literal_known statements) c.body

abbrev pub head_fits : ℕ → Head → Bool
head_fits levels (Statement s) = true
head_fits levels (Bound d) = nat_lt d levels

abbrev pub literal_fits : ℕ → Literal → Bool
literal_fits levels (Plain s) = true
literal_fits levels (Above s d) = nat_lt d levels
literal_fits levels (Lacking s) = true

-- the rule has only degrees that there are
abbrev pub fits : ℕ → Clause → Bool
fits levels c = nat_lt c.weight levels && (head_fits levels c.head && list_all (literal_fits levels) c.body)

-- A rule is lawful on some levels and statements if it keeps within them and has at most 4 literals.
pub record Lawful (levels statements : ℕ) (c : Clause) : Type 0 where
  pub knows : known statements c ≡ true
  pub degrees : fits levels c ≡ true
  pub short : nat_le (length c.body) 4 ≡ true
