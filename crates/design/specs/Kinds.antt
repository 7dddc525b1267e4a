-- What the code's kinds, tags and operators are in document 01's terms.
use Rattle.std.specs.Prelude.{ℕ, ◌≡◌, Result, Ok, Err}
use Rattle.design.specs.declared.kinds.Kind as DK
use Rattle.design.specs.declared.kinds.Role as DR
use Rattle.design.specs.declared.kinds.Tag as DT
use Rattle.design.specs.declared.kinds.Operator as DO
use Rattle.design.specs.declared.kinds.Statement as DS
use Rattle.design.specs.declared.kinds.Unknown.{Unknown}
use Rattle.design.specs.Grammar as G
use Rattle.design.specs.Syntax as S
use Rattle.design.specs.Records as R

unfoldable pub kind : DK.Kind → S.Kind
kind DK.Kind.Void = S.Kind.void
kind DK.Kind.Num = S.Kind.num
kind DK.Kind.Bool = S.Kind.bool

unfoldable pub role : DR.Role → S.Role
role DR.Role.Value = S.Role.value
role DR.Role.Action = S.Role.action
role DR.Role.ActionValue = S.Role.action_value

-- the kind that a number is read as
abbrev pub IsKind : ℕ → DK.Kind → Type 0
IsKind n k = kind k ≡ R.kind_of n

abbrev pub IsRole : ℕ → DR.Role → Type 0
IsRole n r = role r ≡ R.role_of n

-- what the byte of a tag begins
unfoldable pub tag : Result DT.Tag Unknown → G.Tag
tag (Ok DT.Tag.Number) = G.Tag.number
tag (Ok DT.Tag.Truth) = G.Tag.truth
tag (Ok DT.Tag.Local) = G.Tag.local
tag (Ok DT.Tag.Operator) = G.Tag.operator
tag (Ok DT.Tag.Choice) = G.Tag.choice
tag (Ok DT.Tag.Guarded) = G.Tag.guarded
tag (Ok DT.Tag.Block) = G.Tag.block
tag (Ok DT.Tag.Call) = G.Tag.call
tag (Ok DT.Tag.Display) = G.Tag.display
tag (Err e) = G.Tag.unknown

abbrev pub IsTag : ℕ → Result DT.Tag Unknown → Type 0
IsTag n r = tag r ≡ G.tag_of n

unfoldable pub operation : Result DO.Operator Unknown → G.Operation
operation (Ok DO.Operator.Plus) = G.Operation.binary S.Operator.plus
operation (Ok DO.Operator.Minus) = G.Operation.binary S.Operator.minus
operation (Ok DO.Operator.Equal) = G.Operation.binary S.Operator.equal
operation (Ok DO.Operator.Less) = G.Operation.binary S.Operator.less
operation (Ok DO.Operator.And) = G.Operation.binary S.Operator.and
operation (Ok DO.Operator.Or) = G.Operation.binary S.Operator.or
operation (Ok DO.Operator.Not) = G.Operation.not
operation (Err e) = G.Operation.unknown

abbrev pub IsOperator : ℕ → Result DO.Operator Unknown → Type 0
IsOperator n r = operation r ≡ G.operation_of n

-- "08 (let) or 09 (do)"
abbrev pub IsStatement : ℕ → Result DS.Statement Unknown → Type 0
IsStatement n (Ok DS.Statement.Let) = n ≡ 8
IsStatement n (Ok DS.Statement.Do) = n ≡ 9
IsStatement n (Err e) = (n ≡ 8 → ⊥) × (n ≡ 9 → ⊥)
