use Rattle.dmn_block.proofs.read.read_block.Goals as goal

pub returns-in_ok-frame_of-in-Ok-clause-found : goal.returns-in_ok-frame_of-in-Ok-clause-found
returns-in_ok-frame_of-in-Ok-clause-found c =
    let head = c.in-Ok.body.header in
    rw c.in_ok-frame_of-in-Ok.ensures (record { version = head.version; time = head.time; bits = head.bits; nonce = head.nonce }, c.in-Ok.ensures.found.0, c.in-Ok.ensures.found.1)
