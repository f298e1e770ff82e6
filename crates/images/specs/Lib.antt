-- Words as bytes.
pub mod Bytes
-- The words of a record, a window and a queue.
pub mod Encoded
-- Whether words are such an encoding.
pub mod Encodes
-- Load and store.
pub mod Images
-- Numbers that fit their types: the theorems' premises.
pub mod Fits
-- Laws of bytes: how each loop goes on.
pub mod BytesLaws
-- Laws of the test of rows.
pub mod EncodesLaws
-- Laws of load and store, by what is asked in order.
pub mod ImagesLaws
-- Laws of the parts: the words of each, its test and what they stand for.
pub mod PartLaws
-- Laws of what holds of each element of a list.
pub mod AllLaws
-- Theorems: what passes the test is exactly the encodings; of records, windows and tables, and of queues.
pub mod Exact
pub mod ExactQueue
-- Words to bytes and back, bytes to words and back.
pub mod RoundTrip
-- Theorems: what is stored is loaded again as it was, what is loaded is stored again as it was and is an encoding.
pub mod Saved
-- Images computed, and what meets the theorems' premises.
pub mod Samples
