use Rattle.std.proofs.Common.{◌+◌, ◌*◌, ◌<◌, ◌≤◌, ◌≡◌, ℕ, length, take, ap, refl, ◌∙◌, arith, mul-le-mul_right}
use Rattle.std.specs.Prelude.{Vec}
use Rattle.lanes.specs.Lanes.{bytes_at}
use Rattle.pieces.specs.declared.slots.TheConstants.{SLOTS}
use Rattle.pieces.proofs.Stored.{front_put, others_stay, written}
use Rattle.pieces.proofs.store.Store.put.Goals as goal

-- the slot is one of those that there are
inside : {A : Type 0} (v : Vec ℕ A) (slot size : ℕ) → v.len ≡ SLOTS * size → slot < SLOTS → slot * size + size ≤ length v.items
inside v slot size all less =
    let last : (slot + 1) * size ≤ SLOTS * size = mul-le-mul_right size (omega (arith, less)) in
    omega (arith, last, all, v.ok.0)

pub returns : goal.returns
returns c =
    let f = c.args.self.now in
    let start : ℕ = c.args.slot * f.size + c.args.at in
    let room = inside f.bytes c.args.slot f.size f.slots c.requires.slot in
    let now = written f.bytes c.as_mut_slice.result.now c.args.bytes.now c.copy_from_slice.new.self start (omega (arith, room, c.requires.room))
    c.as_mut_slice.ensures.value c.copy_from_slice.ensures.after in
    record {
      size = refl;
      front = ap (λ t. take (c.args.at + length c.args.bytes.now) (bytes_at t (c.args.slot * f.size) f.size)) now
          ∙ front_put f.bytes.items c.args.bytes.now c.args.slot f.size c.args.at c.requires.room room;
      others = λ other within differ. ap (λ t. bytes_at t (other * f.size) f.size) now
          ∙ others_stay f.bytes.items c.args.bytes.now c.args.slot other f.size c.args.at c.requires.room room differ;
    }
