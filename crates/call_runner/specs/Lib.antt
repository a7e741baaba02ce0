pub mod PrintedTexts
