use Rattle.frames.proofs.answers.Answer.write.Goals as goal

pub returns-in-Settled : goal.returns-in-Settled
returns-in-Settled c =
    let made = c.write_line-in-Settled.ensures in
    let after = rw (c.to_be_bytes-in-Settled.ensures, c.to_be_bytes-in-Settled-2.ensures) at made.after in
    rw c.in-Settled.is (record { answer = made.answer; after = after })
