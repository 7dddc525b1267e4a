-- Files and what they are read as, worked by hand from document 01: bytes in hex where it has them so, places and counts in decimal.
-- Each example is proved by computing it.
use Rattle.std.specs.Prelude.{ℕ, zero, suc, true, false, List, [], ◌∷◌, ◌++◌, ◌≡◌, refl, pos, negsuc, length, take, replicate}
use Rattle.words.specs.Words as W
use Rattle.design.specs.Syntax.{Operator, Expr, Exprs, Stmts, Kind, Role, Instance, Body}
use Rattle.design.specs.Take as T
use Rattle.design.specs.Grammar as G
use Rattle.design.specs.Records as R
use Rattle.design.specs.Records.{reading}
use Rattle.design.specs.Parts as P
use Rattle.design.specs.Answers as A

-- all that the examples compute with
computing : Unit {0}
unfolding W.number T.bind T.needs T.pick T.byte T.two_bytes T.four_bytes G.tag_of G.operation_of G.last G.then G.exprs G.statement G.statements G.operands G.after G.expr R.empty R.methods R.rules R.is_user R.latest_is_user R.with_instance R.with_body R.with_schedule R.is_closed R.is_empty R.among R.mark_of R.role_of R.kind_of R.agree R.field R.params R.part R.outermost R.register_fields R.concurrent_fields R.method_fields R.rule_fields R.entries R.schedule_fields R.instance_fields R.instance_record R.method_record R.rule_record R.schedule_record R.after_mark R.one_record R.closed R.records R.reading P.of_owner P.method_of P.nowhere P.part_of_rule P.part_of_method P.rule_in P.method_in P.rule_part P.method_part A.summary
computing = tt

-- the marks, in ASCII
abbrev RG : List ℕ
RG = 0x52 ∷ 0x47 ∷ []

abbrev CR : List ℕ
CR = 0x43 ∷ 0x52 ∷ []

abbrev UM : List ℕ
UM = 0x55 ∷ 0x4D ∷ []

abbrev MD : List ℕ
MD = 0x4D ∷ 0x44 ∷ []

abbrev RL : List ℕ
RL = 0x52 ∷ 0x4C ∷ []

abbrev SC : List ℕ
SC = 0x53 ∷ 0x43 ∷ []

-- the file is a design of so many instances, methods, rules and entries of the schedule; or it is refused with a number at a place
abbrev counts : List ℕ → (instances methods rules entries : ℕ) → Type 0
counts file i m r n = A.summary (reading file) ≡ A.counts i m r n

abbrev refused : List ℕ → (number place : ℕ) → Type 0
refused file n place = reading file ≡ R.refusal (record { number = n; place = place })

-- ---- whole designs

abbrev P10 : List ℕ
P10 = 0x52 ∷ 0x47 ∷ 0x05 ∷ 0x00 ∷ 0x00 ∷ 0x00 ∷ 0x55 ∷ 0x4D ∷ 0x52 ∷ 0x4C ∷ 0x11 ∷ 0x00 ∷ 0x02 ∷ 0x01 ∷ 0x0A ∷ 0x00 ∷ 0x01
    ∷ 0x01 ∷ 0x04 ∷ 0x00 ∷ 0x0A ∷ 0x00 ∷ 0x00 ∷ 0x00 ∷ 0x01 ∷ 0x01 ∷ 0x00 ∷ 0x00 ∷ 0x00 ∷ 0x53 ∷ 0x43 ∷ 0x01 ∷ 0x00 ∷ []

-- RG of -1; UM with a V of Num, a rule, an A with a Num and a Bool; CR of -2147483648; UM with an AV of Bool with a Bool, a rule
abbrev mixed : List ℕ
mixed = RG ++ 0xFF ∷ 0xFF ∷ 0xFF ∷ 0xFF ∷ UM
    ++ MD ++ 0 ∷ 1 ∷ 0 ∷ 2 ∷ 0 ∷ 0x03 ∷ 9 ∷ []
    ++ RL ++ 4 ∷ 0 ∷ 0x02 ∷ 1 ∷ 0x02 ∷ 0 ∷ []
    ++ MD ++ 1 ∷ 0 ∷ 2 ∷ 1 ∷ 2 ∷ 6 ∷ 0 ∷ 0x04 ∷ 2 ∷ 0x03 ∷ 0 ∷ 0x03 ∷ 1 ∷ []
    ++ CR ++ 3 ∷ 0x00 ∷ 0x00 ∷ 0x00 ∷ 0x80 ∷ UM
    ++ MD ++ 2 ∷ 2 ∷ 1 ∷ 2 ∷ 2 ∷ 0 ∷ 0x03 ∷ 0 ∷ []
    ++ RL ++ 8 ∷ 0 ∷ 0x02 ∷ 0 ∷ 0x04 ∷ 4 ∷ 0x02 ∷ 1 ∷ 0x02 ∷ 0 ∷ []
    ++ SC ++ 2 ∷ 1 ∷ 0 ∷ []

-- a rule: not (local 200 < -2); a block: let if false then local 0 - local 1 else call 255.7(true, local 2); do when (true or false)
-- display -2147483648
abbrev forms : List ℕ
forms = UM ++ RL ++ 45 ∷ 0 ∷ 0x04 ∷ 6 ∷ 0x04 ∷ 3 ∷ 0x03 ∷ 200 ∷ 0x01 ∷ 0xFE ∷ 0xFF ∷ 0xFF ∷ 0xFF ∷ []
    ++ 0x07 ∷ 2 ∷ 0x08 ∷ 0x05 ∷ 0x02 ∷ 0 ∷ 0x04 ∷ 1 ∷ 0x03 ∷ 0 ∷ 0x03 ∷ 1 ∷ 0x0A ∷ 255 ∷ 7 ∷ 2 ∷ 0x02 ∷ 1 ∷ 0x03 ∷ 2 ∷ []
    ++ 0x09 ∷ 0x06 ∷ 0x04 ∷ 5 ∷ 0x02 ∷ 1 ∷ 0x02 ∷ 0 ∷ 0x0B ∷ 0x01 ∷ 0x00 ∷ 0x00 ∷ 0x00 ∷ 0x80 ∷ []
    ++ SC ++ 0 ∷ []

abbrev method_with : (owner place : ℕ) → Role → Kind → List Kind → (start size : ℕ) → Expr → Body
method_with o p r k ks s n e = Body.method (record { owner = o; place = p; role = r; result = k; params = ks; start = s; size = n; body = e })

abbrev rule_with : (owner place start size : ℕ) (guard body : Expr) → Body
rule_with o p s n g e = Body.rule (record { owner = o; place = p; start = s; size = n; guard = g; body = e })

designs :
    -- true; write (read + 1)
    (reading P10 ≡ R.design (record {
      instances = Instance.register 0 (pos 5) ∷ Instance.user 6 ∷ [];
      bodies = rule_with 1 8 12 17 (Expr.truth true)
          (Expr.call 0 1 (Exprs.more (Expr.binary Operator.plus (Expr.call 0 0 Exprs.none) (Expr.number (pos 1))) Exprs.none)) ∷ [];
      schedule = 0 ∷ [];
    }))
    × (reading mixed ≡ R.design (record {
      instances = Instance.register 0 (negsuc 0) ∷ Instance.user 6 ∷ Instance.concurrent 40 3 (negsuc 2147483647) ∷ Instance.user 47 ∷ [];
      bodies = method_with 1 8 Role.value Kind.num [] 15 2 (Expr.local 9)
          ∷ rule_with 1 17 21 4 (Expr.truth true) (Expr.truth false)
          ∷ method_with 1 25 Role.action Kind.void (Kind.num ∷ Kind.bool ∷ []) 34 6 (Expr.binary Operator.equal (Expr.local 0) (Expr.local 1))
          ∷ method_with 3 49 Role.action_value Kind.bool (Kind.bool ∷ []) 57 2 (Expr.local 0)
          ∷ rule_with 3 59 63 8 (Expr.truth false) (Expr.binary Operator.and (Expr.truth true) (Expr.truth false)) ∷ [];
      schedule = 1 ∷ 0 ∷ [];
    }))
    -- the guard of the when stands at 39
    × (reading forms ≡ R.design (record {
      instances = Instance.user 0 ∷ [];
      bodies = rule_with 0 2 6 45 (Expr.negate (Expr.binary Operator.less (Expr.local 200) (Expr.number (negsuc 1))))
          (Expr.block (Stmts.then_let
          (Expr.choose (Expr.truth false) (Expr.binary Operator.minus (Expr.local 0) (Expr.local 1))
          (Expr.call 255 7 (Exprs.more (Expr.truth true) (Exprs.more (Expr.local 2) Exprs.none))))
          (Stmts.last_do (Expr.guarded 39 (Expr.binary Operator.or (Expr.truth true) (Expr.truth false))
          (Expr.display (Expr.number (negsuc 2147483647))))))) ∷ [];
      schedule = [];
    }))
unfolding computing
designs = (refl, refl, refl)

-- the parts; methods are numbered within their instance. The empty part: no such number, a register's read, a file that is refused.
parts :
    (P.rule_in (reading P10) 0 ≡ record { start = 12; size = 17 })
    × (P.rule_part mixed 1 ≡ 0x02 ∷ 0 ∷ 0x04 ∷ 4 ∷ 0x02 ∷ 1 ∷ 0x02 ∷ 0 ∷ [])
    × (P.rule_part mixed 2 ≡ [])
    × (P.rule_part (P10 ++ 0 ∷ []) 0 ≡ [])
    × (P.method_in (reading mixed) 1 1 ≡ record { start = 34; size = 6 })
    × (P.method_part mixed 1 0 ≡ 0x03 ∷ 9 ∷ [])
    × (P.method_part mixed 1 1 ≡ 0x04 ∷ 2 ∷ 0x03 ∷ 0 ∷ 0x03 ∷ 1 ∷ [])
    × (P.method_part mixed 3 0 ≡ 0x03 ∷ 0 ∷ [])
    × (P.method_part mixed 1 2 ≡ [])
    × (P.method_part mixed 3 1 ≡ [])
    × (P.method_part mixed 0 0 ≡ [])
    × (P.method_part mixed 4 0 ≡ [])
    × (P.method_part (mixed ++ 0 ∷ []) 1 0 ≡ [])
unfolding computing
parts = (refl, refl, refl, refl, refl, refl, refl, refl, refl, refl, refl, refl, refl)

-- ---- the numbers, each with those that it goes before and after

abbrev copies : ℕ → List ℕ → List ℕ
copies zero t = []
copies (suc n) t = t ++ copies n t

-- V of Num: local 0. And: true; false
abbrev method : List ℕ
method = MD ++ 0 ∷ 1 ∷ 0 ∷ 2 ∷ 0 ∷ 0x03 ∷ 0 ∷ []

abbrev rule : List ℕ
rule = RL ++ 4 ∷ 0 ∷ 0x02 ∷ 1 ∷ 0x02 ∷ 0 ∷ []

numbers_1_to_5 :
    -- a file of 32769 bytes, before all else; one of 32768
    refused (replicate 32769 0) 1 0
    × refused (P10 ++ replicate 32736 0) 1 0 × refused (P10 ++ replicate 32735 0) 4 33
    -- cut in the mark; in a field; in a length; in a body, whatever its bytes are; in the schedule
    × refused (0x58 ∷ []) 2 0 × refused (UM ++ 0x52 ∷ []) 2 2
    × refused (RG ++ 5 ∷ 0 ∷ 0 ∷ []) 2 0 × refused (CR ++ 4 ∷ []) 2 0 × refused (UM ++ MD ++ 0 ∷ 1 ∷ 2 ∷ 1 ∷ []) 2 2
    × refused (UM ++ RL ++ 4 ∷ []) 2 2 × refused (UM ++ RL ++ 4 ∷ 0 ∷ 0x02 ∷ 1 ∷ 0x02 ∷ []) 2 2
    × refused (UM ++ RL ++ 2 ∷ 0 ∷ 0xFF ∷ []) 2 2 × refused SC 2 0 × refused (take 32 P10) 2 29
    -- unknown marks, of known letters and of small ones
    × refused (0x52 ∷ 0x4D ∷ []) 3 0 × refused (UM ++ 0x72 ∷ 0x67 ∷ 5 ∷ 0 ∷ 0 ∷ 0 ∷ []) 3 2
    -- before any instance and after a register, before the fields; any byte after SC
    × refused MD 4 0 × refused (RG ++ 5 ∷ 0 ∷ 0 ∷ 0 ∷ RL ++ 9 ∷ []) 4 6
    × refused (UM ++ CR ++ 1 ∷ 0 ∷ 0 ∷ 0 ∷ 0 ∷ MD ++ 3 ∷ []) 4 9
    × refused (SC ++ 0 ∷ 0x58 ∷ []) 4 3 × refused (P10 ++ SC ++ 0 ∷ []) 4 33
    -- 64 instances and one more, before its fields
    × counts (copies 64 UM ++ SC ++ 0 ∷ []) 64 0 0 0 × refused (copies 65 UM ++ SC ++ 0 ∷ []) 5 128
    × refused (copies 64 UM ++ CR ++ 9 ∷ []) 5 128 × refused (copies 64 UM ++ RG) 5 128
    -- 128 methods in all and one more, under a user instance and under a register
    × counts (UM ++ copies 64 method ++ UM ++ copies 64 method ++ SC ++ 0 ∷ []) 2 128 0 0
    × refused (UM ++ copies 64 method ++ UM ++ copies 64 method ++ MD ++ 3 ∷ []) 5 1156
    × refused (UM ++ copies 128 method ++ RG ++ 0 ∷ 0 ∷ 0 ∷ 0 ∷ MD) 4 1160
    -- 64 rules and one more
    × counts (UM ++ copies 64 rule ++ SC ++ 1 ∷ 63 ∷ []) 1 0 64 1 × refused (UM ++ copies 64 rule ++ RL) 5 514
unfolding computing
numbers_1_to_5 = (refl, refl, refl, refl, refl, refl, refl, refl, refl, refl, refl, refl, refl, refl, refl, refl, refl, refl, refl, refl, refl, refl, refl, refl, refl, refl, refl, refl, refl)

numbers_6_8_9 :
    -- ports 0 and 5; a field out of its range goes before a later one that is cut
    refused (CR ++ 0 ∷ []) 6 0 × refused (CR ++ 5 ∷ 0 ∷ 0 ∷ 0 ∷ 0 ∷ []) 6 0 × refused (UM ++ MD ++ 3 ∷ []) 6 2
    -- kind and result disagree
    × refused (UM ++ MD ++ 0 ∷ 0 ∷ []) 6 2 × refused (UM ++ MD ++ 1 ∷ 1 ∷ []) 6 2 × refused (UM ++ MD ++ 2 ∷ 0 ∷ []) 6 2
    -- 4 parameters and 5; their kinds one by one; a schedule of 65
    × counts (UM ++ MD ++ 2 ∷ 2 ∷ 4 ∷ 1 ∷ 2 ∷ 1 ∷ 2 ∷ 2 ∷ 0 ∷ 0x03 ∷ 0 ∷ SC ++ 0 ∷ []) 1 1 0 0
    × refused (UM ++ MD ++ 0 ∷ 1 ∷ 5 ∷ []) 6 2 × refused (UM ++ MD ++ 0 ∷ 1 ∷ 2 ∷ 3 ∷ []) 6 2 × refused (SC ++ 65 ∷ []) 6 0
    -- a missing rule, and one twice; each entry is tested before the next is missed
    × refused (SC ++ 1 ∷ 0 ∷ []) 8 0 × refused (UM ++ rule ++ SC ++ 2 ∷ 1 ∷ []) 8 10
    × refused (UM ++ rule ++ SC ++ 3 ∷ 0 ∷ 0 ∷ []) 8 10 × refused (UM ++ rule ++ SC ++ 3 ∷ 0 ∷ []) 2 10
    × refused (UM ++ copies 3 rule ++ SC ++ 3 ∷ 2 ∷ 0 ∷ 2 ∷ []) 8 26 × counts (UM ++ copies 3 rule ++ SC ++ 3 ∷ 2 ∷ 0 ∷ 1 ∷ []) 1 0 3 3
    -- P9; no SC; nothing but SC
    × refused [] 9 0 × refused UM 9 2 × refused (take 29 P10) 9 29 × counts (SC ++ 0 ∷ []) 0 0 0 0
unfolding computing
numbers_6_8_9 = (refl, refl, refl, refl, refl, refl, refl, refl, refl, refl, refl, refl, refl, refl, refl, refl, refl, refl, refl, refl)

-- a rule whose guard is true, with so many bytes of a body, under 254
abbrev ruled : List ℕ → List ℕ
ruled t = UM ++ RL ++ length (0x02 ∷ 1 ∷ t) ∷ 0 ∷ 0x02 ∷ 1 ∷ t ++ SC ++ 0 ∷ []

number_7 :
    -- no byte; a guard only; bytes left over; cut, though the next record would complete it; 260 bytes
    refused (UM ++ RL ++ 0 ∷ 0 ∷ SC ++ 0 ∷ []) 7 2 × refused (UM ++ MD ++ 0 ∷ 1 ∷ 0 ∷ 0 ∷ 0 ∷ SC ++ 0 ∷ []) 7 2
    × refused (ruled []) 7 2 × refused (ruled (0x02 ∷ 0 ∷ 0x02 ∷ [])) 7 2 × refused (ruled (0x03 ∷ [])) 7 2
    × counts (UM ++ RL ++ 4 ∷ 1 ∷ 0x02 ∷ 1 ∷ 0x07 ∷ 32 ∷ copies 32 (0x09 ∷ 0x05 ∷ 0x02 ∷ 1 ∷ 0x02 ∷ 1 ∷ 0x02 ∷ 1 ∷ []) ++ SC ++ 0 ∷ []) 1 0 1 0
    -- depth 16 and 17: of displays, of blocks (a statement adds no depth of its own), in a guard
    × counts (ruled (replicate 15 0x0B ++ 0x02 ∷ 0 ∷ [])) 1 0 1 0 × refused (ruled (replicate 16 0x0B ++ 0x02 ∷ 0 ∷ [])) 7 2
    × counts (ruled (copies 15 (0x07 ∷ 1 ∷ 0x09 ∷ []) ++ 0x02 ∷ 0 ∷ [])) 1 0 1 0
    × refused (ruled (copies 16 (0x07 ∷ 1 ∷ 0x09 ∷ []) ++ 0x02 ∷ 0 ∷ [])) 7 2
    × counts (UM ++ RL ++ 19 ∷ 0 ∷ replicate 15 0x0B ++ 0x02 ∷ 0 ∷ 0x02 ∷ 0 ∷ SC ++ 0 ∷ []) 1 0 1 0
    -- a bool of 2; every local; operators 6 and 7
    × refused (ruled (0x02 ∷ 2 ∷ [])) 7 2 × counts (ruled (0x03 ∷ 255 ∷ [])) 1 0 1 0
    × counts (ruled (0x04 ∷ 6 ∷ 0x03 ∷ 0 ∷ [])) 1 0 1 0 × refused (ruled (0x04 ∷ 7 ∷ 0x03 ∷ 0 ∷ [])) 7 2
    -- 0, 1, 32 and 33 statements
    × refused (ruled (0x07 ∷ 0 ∷ [])) 7 2 × counts (ruled (0x07 ∷ 1 ∷ 0x08 ∷ 0x03 ∷ 0 ∷ [])) 1 0 1 0
    × counts (ruled (0x07 ∷ 32 ∷ copies 32 (0x08 ∷ 0x03 ∷ 0 ∷ []))) 1 0 1 0
    × refused (ruled (0x07 ∷ 33 ∷ copies 33 (0x08 ∷ 0x03 ∷ 0 ∷ []))) 7 2
    -- every instance and method; 4 and 5 arguments
    × counts (ruled (0x0A ∷ 255 ∷ 255 ∷ 4 ∷ copies 4 (0x03 ∷ 0 ∷ []))) 1 0 1 0
    × refused (ruled (0x0A ∷ 0 ∷ 0 ∷ 5 ∷ copies 5 (0x03 ∷ 0 ∷ []))) 7 2
    -- a let is no expression, and an expression no statement; an unknown byte
    × refused (ruled (0x08 ∷ 0x03 ∷ 0 ∷ [])) 7 2 × refused (ruled (0x07 ∷ 1 ∷ 0x0B ∷ 0x03 ∷ 0 ∷ [])) 7 2
    × refused (ruled (0x0C ∷ 0x03 ∷ 0 ∷ [])) 7 2
unfolding computing
number_7 = (refl, refl, refl, refl, refl, refl, refl, refl, refl, refl, refl, refl, refl, refl, refl, refl, refl, refl, refl, refl, refl, refl, refl, refl)
