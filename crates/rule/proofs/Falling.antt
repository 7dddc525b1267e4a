-- What falls along the cycle: the instance number, then the bytes of the body that are left, then the member's rank. And what each member
-- requires of the frame and the mark that it is called with.
use Prim.Native.Nat.{ℕ, suc, ◌+◌, ◌-◌, ◌*◌, ◌≤◌, ◌<◌}
use mathlib.Core.Path.{◌≡◌, ap, ◌∙◌}
use mathlib.Core.Bool.{true}
use mathlib.Core.List.{List}
use native.Mathlib.Omega.{arith}
use lib.Dec.{leb}
use lib.IntN.{ℤ}
use lib.ListN.{length, take, set}
use borrow.Author.Tests.{leb-true}
use Rattle.std.specs.Prelude.{Option as Maybe, Some}
use Rattle.design.specs.Text.{Sees, Skips, Within}
use Rattle.design.specs.Text as S
use Rattle.design.specs.Lookups.{MethodText}
use Rattle.design.proofs.Taking.{follows}
use Rattle.rule.specs.declared.Value as DV
use Rattle.rule.specs.declared.Mark.{Mark}
use Rattle.rule.specs.declared.Answer.{Answer}
use Rattle.rule.specs.declared.body.Call.{Call}
use Rattle.rule.specs.Post.{Place, Part, Ready, Does, Along, Lists, Headed, Heads, Notes}
use Rattle.rule.proofs.Constructs.{onward}
use Rattle.rule.proofs.Invoking.{noted}
use Rattle.rule.proofs.Walking.{Goes, Listing}

-- "instance number, then remaining body bytes, falls": a body has less than 65536 bytes. `left` are those of the text from the mark on.
unfoldable pub weight : Place → (left rank : ℕ) → ℕ
weight f left rank = f.me * 1048576 + left * 8 + rank

-- g is a frame of the same body as f
module _ (f : Place) (text : List ℕ) (m : Mark) (b : ℕ) {t : ℕ} (w : weight f (length text - m.at) b ≡ t) (g : Place) (x : g.me ≡ f.me) (a : ℕ) where
  -- the same bytes, a member of a lower rank
  pub rank_less : leb (suc a) b ≡ true → weight g (length text - m.at) a < t
  unfolding weight
  rank_less h = omega (arith, w, x, leb-true (suc a) b h)

  fewer : (n : Mark) → m.at < n.at → n.at ≤ length text → leb a 7 ≡ true → weight g (length text - n.at) a < t
  unfolding weight
  fewer n h l q = omega (arith, w, x, leb-true a 7 q)

  -- behind a byte, the head of a call, a value, and a part that was passed over
  pub byte_less : (k : ℕ) {x : Maybe (ℕ × ℕ)} {c n : ℕ} → Sees text m.at x → x ≡ Some (c, n) → leb a 7 ≡ true → weight g (length text - n) a < t
  byte_less k {n = n} h e q = let i = follows h e in fewer (record { at = n; calls = k }) (omega (arith, i.0)) i.1 q

  pub head_less : (o : ℕ) {h : Maybe Call} {c : Call} → Heads text m.at h → h ≡ Some c → leb a 7 ≡ true → weight g (length text - c.at) a < t
  unfolding Headed
  head_less o {c = c} h e q = let u = rw e at h.headed in fewer (record { at = c.at; calls = o }) u.0 u.1 q

  module _ {p : Part} {file plan : List ℕ} {state : List ℤ} {locals : List DV.Value} {log log₁ : List ℕ} {h : Place} {r : Answer} {v : DV.Value} {n : Mark} where
    pub value_less : Does p text file plan state locals log h m log₁ r → r ≡ Answer.Value v n → leb a 7 ≡ true → weight g (length text - n.at) a < t
    value_less d e q = let o = onward d e in fewer n o.0 o.1 q

    pub skip_less : (k : ℕ) {o s : ℕ} {x : Maybe ℕ} → Does p text file plan state locals log h m log₁ r → r ≡ Answer.Value v n →
        Skips S.whole text n.at s x → x ≡ Some o → leb a 7 ≡ true → weight g (length text - o) a < t
    unfolding Within
    skip_less k {o} d e z y q =
        let j = onward d e in
        let i = rw y at z.within in
        fewer (record { at = o; calls = k }) (omega (arith, j.0, i.0)) i.1 q

  module _ {p : Part} {file plan : List ℕ} {state : List ℤ} {locals : List DV.Value} {log log₁ : List ℕ} {r : Answer} {v : DV.Value} {n : Mark} where
    pub second_less : {x : Maybe (ℕ × ℕ)} {c at : ℕ} → Sees text m.at x → x ≡ Some (c, at) → Does p text file plan state locals log f (record { at = at; calls = m.calls }) log₁ r →
        r ≡ Answer.Value v n → leb a 7 ≡ true → weight g (length text - n.at) a < t
    second_less h z d e q = let i = follows h z in let o = onward d e in fewer n (omega (arith, i.0, o.0)) o.1 q

module _ (f : Place) (text : List ℕ) (m : Mark) (b : ℕ) {t : ℕ} (w : weight f (length text - m.at) b ≡ t) where
  -- what is left of a call, behind its head, goes by the instance alone
  pub call_less : (g : Place) (a : ℕ) {h : Maybe Call} {c : Call} → g.me ≡ f.me → Heads text m.at h → h ≡ Some c → leb a 7 ≡ true → weight g 0 a < t
  unfolding Headed weight
  call_less g a x h e q = let u = rw e at h.headed in omega (arith, w, x, u.0, u.1, leb-true a 7 q)

  module _ (a : ℕ) {file plan : List ℕ} {state : List ℤ} {locals : List DV.Value} {log log₁ : List ℕ} {n : Mark} where
    pub goes_less : (g : Place) {own : List DV.Value} {live more k : ℕ} → g.me ≡ f.me → Goes more text file plan state locals log f m own log₁ live n k → leb (suc a) b ≡ true → weight g (length text - n.at) a < t
    unfolding weight
    goes_less g x d q = omega (arith, w, x, d.since, leb-true (suc a) b q)

    pub listing_less : (g : Place) {args : List DV.Value} {made count : ℕ} → g.me ≡ f.me → Listing count text file plan state locals log f m args log₁ n made → leb (suc a) b ≡ true →
        weight g (length text - n.at) a < t
    unfolding weight
    listing_less g x d q = omega (arith, w, x, d.since, leb-true (suc a) b q)

module _ (f : Place) (b : ℕ) {t : ℕ} (w : weight f 0 b ≡ t) where
  -- the same call, a member of a lower rank
  pub finish_less : (g : Place) (a : ℕ) → g.me ≡ f.me → leb (suc a) b ≡ true → weight g 0 a < t
  unfolding weight
  finish_less g a x h = omega (arith, w, x, leb-true (suc a) b h)

  -- a body of an instance below
  pub enter_less : (g : Place) (a : ℕ) {k : ℕ} {file plan text : List ℕ} → MethodText file plan k text → g.me < f.me → leb a 7 ≡ true → weight g (length text - 0) a < t
  unfolding weight
  enter_less g a y h q = omega (arith, w, y.short, leb-true a 7 q)

-- ---- what a member requires

module _ {log : List ℕ} {m : Mark} (r : Ready log m) where
  pub ready_in : {n : Mark} → n.calls ≡ m.calls → Ready log n
  ready_in e = record { recorded = rw e r.recorded; room = r.room }

  pub ready_then : {p : Part} {text file plan : List ℕ} {state : List ℤ} {locals : List DV.Value} {f : Place} {n m₁ : Mark} {log₁ : List ℕ} {a : Answer} {v : DV.Value} →
      Does p text file plan state locals log f n log₁ a → a ≡ Answer.Value v m₁ → Ready log₁ m₁
  ready_then d e = record { recorded = (onward d e).2; room = omega (arith, r.room, d.kept) }

  pub ready_list : {text file plan : List ℕ} {state : List ℤ} {locals : List DV.Value} {f : Place} {n : ℕ} {o m₁ : Mark} {args : List DV.Value} {log₁ : List ℕ} {a : Answer} {v : DV.Value} →
      Lists n text file plan state locals log f o args log₁ a → a ≡ Answer.Value v m₁ → Ready log₁ m₁
  unfolding Along
  ready_list d e = record { recorded = (rw e at d.along).2; room = omega (arith, r.room, d.kept) }

  pub ready_enter : {v : ℕ} {log₁ : List ℕ} {x : Maybe Mark} {n : Mark} → Notes log m v log₁ x → x ≡ Some n → Ready log₁ (record { at = 0; calls = n.calls })
  ready_enter {v} t was =
      let q = noted t was in
      record { recorded = rw q.2 (omega (arith, q.0)); room = omega (arith, r.room, ap length q.1 ∙ lib.ListN.length-set log m.calls v) }

pub ready_first : {log : List ℕ} → 64 ≤ length log → Ready log (record { at = 0; calls = 0 })
ready_first h = record { recorded = omega arith; room = h }

-- ---- what the leaves require

module _ {text : List ℕ} {at : ℕ} {h : Maybe Call} {c : Call} (w : Heads text at h) (e : h ≡ Some c) where
  pub head_inside : c.at ≤ length text
  unfolding Headed
  head_inside = (rw e at w.headed).1
